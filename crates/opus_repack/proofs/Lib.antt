pub mod CutLemmas
pub mod JoinedLemmas
pub mod PartLemmas
pub mod CollectedLemmas
pub mod InsideLemmas
pub mod PushLemmas
pub mod StandardFacts
