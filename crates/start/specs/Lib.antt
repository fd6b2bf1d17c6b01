pub mod Gate
pub mod Length
pub mod Refusal
pub mod Block
