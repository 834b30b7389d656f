pub mod JoinLemmas
pub mod JoinEnds
pub mod GroupsLemmas
pub mod ShortLemmas
mod JoinFacts
mod StreamFacts
pub mod SoFar
pub mod StreamsInLemmas
pub mod ApartLemmas
pub mod StreamLemmas
pub mod LawLemmas
pub mod ShowLemmas
pub mod AgreeLemmas
pub mod ContentsLemmas
pub mod PaddingLemmas
pub mod ApartTaken
pub mod OwnStores
pub mod RecordGroups
pub mod ApartJoined
pub mod JoinAgainLemmas
pub mod OneStream
pub mod KeptAgain
pub mod NormAgainLemmas
