mod FormFacts
pub mod FormLemmas
pub mod LentLemmas
pub mod TakenLemmas
pub mod StandardFacts
pub mod OnePayloadLemmas
pub mod ShowsLemmas
pub mod FramedLemmas
pub mod StoreFronts
pub mod StoreSteps
pub mod StoreHeads
pub mod StorePayloads
pub mod DemoFronts
mod DemoFacts
pub mod StoreOrders
mod OrderLemmas
pub mod StoreParts
pub mod PacketKinds
mod SomeLemmas
