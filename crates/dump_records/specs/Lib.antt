pub mod Fits
pub mod Capture
pub mod CaptureLaws
pub mod Modes
pub mod Wants
pub mod DumpForm
pub mod Sample
pub mod Settled
