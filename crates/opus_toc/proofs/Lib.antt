pub mod Table
pub mod TocLemmas
pub mod FlagLemmas
pub mod StandardFacts
