pub mod Datagrams
pub use Rattle.rtp_packet.specs.RtpValue
pub use Rattle.rtp_packet.specs.RtpBytes
pub use Rattle.rtp_packet.specs.RtpFault
pub use Rattle.rtp_ends.specs.Numbers
pub use Rattle.rtp_ends.specs.Report
pub use Rattle.rtp_ends.specs.Receives
