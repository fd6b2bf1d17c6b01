pub mod Room
pub mod Inner
