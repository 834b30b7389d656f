pub mod SelfLemmas
pub mod SizedLemmas
pub mod SelfPrefixLemmas
pub mod SelfFrontLemmas
pub mod ReadSelf
pub mod StandardFacts
pub mod SelfPlacesLemmas
