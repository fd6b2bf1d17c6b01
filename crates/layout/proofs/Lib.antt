pub mod Laws
pub mod Prefix
pub mod Runs
pub mod Entries
pub mod Sizes
