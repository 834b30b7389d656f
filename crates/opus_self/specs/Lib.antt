pub mod ValueBehind
pub mod BecomesSelf
pub mod LongestSelfPrefix
pub mod SelfFits
pub mod HasSelfTail
pub mod OnlyReading
pub mod LongestSelfFront
