mod StandardFacts
pub mod EndLemmas
pub mod FedLemmas
pub mod LawLemmas
pub mod StandLemmas
pub mod KindLemmas
pub mod SomeLemmas
