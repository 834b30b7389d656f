mod StandardFacts
pub mod NumberLemmas
mod ReadLemmas
