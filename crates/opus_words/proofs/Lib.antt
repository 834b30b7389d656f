pub mod CommandLineLemmas
pub mod FitLemmas
mod StandardFacts
