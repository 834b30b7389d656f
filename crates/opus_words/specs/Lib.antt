pub mod Jobs
pub mod Paddings
pub mod Options
pub mod CommandLine
pub mod Words
pub mod Fit
