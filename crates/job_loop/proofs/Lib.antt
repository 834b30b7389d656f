mod StandardFacts
pub mod FormLemmas
pub mod StepLemmas
pub mod RunLemmas
pub mod CauseLemmas
pub mod Reached
pub mod EndLemmas
pub mod TurnLemmas
pub mod RangeLemmas
pub mod InnerLemmas
pub mod JudgeLemmas
pub mod PutLemmas
pub mod SampleLemmas
pub mod FirstLemmas
pub mod LawLemmas
