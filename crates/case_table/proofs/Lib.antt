pub mod Computed
pub mod Examples
