mod StandardFacts
pub mod Slices
pub mod Onward
pub mod BytesLemmas
