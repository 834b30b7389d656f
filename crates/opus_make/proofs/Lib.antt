pub mod DrawLemmas
pub mod FrameLemmas
pub mod WrittenLemmas
pub mod StandardFacts
pub mod PlanLemmas
