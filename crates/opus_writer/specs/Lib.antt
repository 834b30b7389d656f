pub mod Forms
pub mod Padded
pub mod Puts
pub mod Pushes
