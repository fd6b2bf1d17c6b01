pub mod Reason
pub mod Fault
pub mod Inner
