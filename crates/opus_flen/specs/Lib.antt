pub mod FrameLength
pub mod PaddingLength
