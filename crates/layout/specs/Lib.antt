pub mod Columns
pub mod Inner
pub mod Payloads
