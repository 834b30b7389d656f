pub mod CaptureLemmas
pub mod NetLemmas
pub mod PlainLemmas
pub mod SendLemmas
pub mod PacketsLemmas
pub mod StoreLemmas
mod StandardFacts
pub mod TellLemmas
pub mod ReceiveLemmas
pub mod MissingLemmas
mod CaptureFacts
pub mod ReportLemmas
pub mod CountLemmas
mod ReportAgain
pub mod AgainLemmas
pub mod FewLemmas
