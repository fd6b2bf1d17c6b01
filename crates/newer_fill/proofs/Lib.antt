pub mod Parts
pub mod Passing
