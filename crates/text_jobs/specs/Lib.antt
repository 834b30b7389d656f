pub mod Lines
pub mod LineForm
pub mod LineLaws
pub mod Telling
pub mod Sdp
pub mod SdpStands
