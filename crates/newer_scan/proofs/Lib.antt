pub mod Tries
pub mod Runs
