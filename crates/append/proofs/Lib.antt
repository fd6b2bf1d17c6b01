pub mod Lengths
pub mod Outcomes
pub mod Runs
pub mod Only
pub mod Cases
