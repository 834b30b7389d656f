pub mod Toc
pub mod Configuration
pub mod Flags
