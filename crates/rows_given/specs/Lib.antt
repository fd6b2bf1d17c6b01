pub mod Given
pub mod Inner
