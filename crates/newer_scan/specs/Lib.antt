pub mod Frames
pub mod Inner
