pub mod Frames
pub mod FrameBack
