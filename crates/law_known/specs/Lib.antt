pub mod Made
pub mod Shown
