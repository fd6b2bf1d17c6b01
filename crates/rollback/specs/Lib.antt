pub mod Mask
pub mod Inner
