pub mod LengthLaws
pub mod Needs
pub mod Tails
pub mod Answers
pub mod Only
pub mod Outcomes
pub mod Written
