pub mod FrameIn
