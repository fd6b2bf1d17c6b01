pub mod Inner
pub mod Keys
pub mod Map
pub mod Rows
pub mod Write
