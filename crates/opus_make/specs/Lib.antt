pub mod Draws
pub mod Plan
pub mod Written
pub mod Generated
pub mod Values
pub mod Ramp
