pub mod Events
pub mod Length
pub mod Inner
pub mod Eights
