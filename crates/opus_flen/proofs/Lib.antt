pub mod LengthLemmas
pub mod PaddingLemmas
pub mod PaddingReadLemmas
pub mod PaddingFrontLemmas
pub mod StandardFacts
