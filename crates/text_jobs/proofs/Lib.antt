pub mod LineLemmas
pub mod SdpLemmas
pub mod AgainLemmas
pub mod StandardFacts
