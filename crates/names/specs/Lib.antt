pub mod Bytes
pub mod Inner
pub mod Names
