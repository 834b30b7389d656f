mod StandardFacts
pub mod RunLemmas
pub mod MadeSizes
pub mod MadeReached
pub mod MadeEnds
pub mod InnerText
pub mod MakeLemmas
pub mod WholeLemmas
pub mod TextsLemmas
pub mod PartsLemmas
pub mod HeadLemmas
pub mod HeadLaws
pub mod PlanLemmas
pub mod MadePacketLemmas
pub mod TakeLemmas
pub mod TotalsLemmas
pub mod TrialLemmas
