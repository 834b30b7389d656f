pub mod Ends
pub mod Choices
pub mod Refusal
pub mod Each
pub mod EachStands
pub mod First
