pub mod Texts
pub mod Parts
pub mod Types
pub mod Accepted
