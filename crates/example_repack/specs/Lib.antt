pub mod Groups
pub mod Runs
pub use Rattle.opus_packet.specs.Value
pub use Rattle.opus_packet.specs.Canonical
pub use Rattle.opus_repack.specs.Collected
