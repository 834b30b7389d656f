pub mod EndsLemmas
pub mod RunLemmas
pub mod EachLemmas
pub mod FirstLemmas
mod StandardFacts
