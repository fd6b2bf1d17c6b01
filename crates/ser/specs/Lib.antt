pub mod Write
pub mod Length
pub mod Inner
