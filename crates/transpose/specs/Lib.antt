pub mod Judge
pub mod Records
pub mod Ports
pub mod Frame
pub mod Answers
pub mod Inner
