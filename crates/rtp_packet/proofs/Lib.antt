pub mod NumberLemmas
pub mod CheckLemmas
pub mod SpelledLemmas
pub mod ReadingLemmas
pub mod WriteLemmas
pub mod StandardFacts
