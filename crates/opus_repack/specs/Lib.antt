pub mod Joined
pub mod Parts
pub mod Collected
pub mod Inside
