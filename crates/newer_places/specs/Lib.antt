pub mod Known
pub mod Inner
