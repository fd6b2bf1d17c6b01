pub mod Cells
pub mod Parts
pub mod Rows
pub mod Inner
