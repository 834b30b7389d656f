mod StandardFacts
pub mod TurnLemmas
pub mod LentLemmas
pub mod TakenLemmas
pub mod DemoFronts
mod StreamKinds
mod OrderLemmas
mod SomeLemmas
