pub mod Columns
pub mod Finals
pub mod Outcomes
pub mod Live
