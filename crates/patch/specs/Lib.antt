pub mod Patch
pub mod Field
pub mod Inner
