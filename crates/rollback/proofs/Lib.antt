pub mod Places
pub mod Marks
pub mod Turns
pub mod Outcomes
pub mod Only
pub mod Cases
