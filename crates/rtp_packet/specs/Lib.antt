pub mod RtpValue
pub mod RtpBytes
pub mod RtpFault
pub mod RtpRead
pub mod Checks
