pub mod End
pub mod Tail
pub mod Inner
