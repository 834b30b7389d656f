pub mod Stream
pub mod Recorder
pub use Rattle.opus_packet.specs.Value
pub use Rattle.opus_packet.specs.Canonical
pub use Rattle.opus_packet.specs.SelfGrammar
pub use Rattle.opus_self.specs.BecomesSelf
pub use Rattle.rec_store.specs.DemoStore
