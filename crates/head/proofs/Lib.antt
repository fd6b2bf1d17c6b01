pub mod Filled
pub mod Heads
pub mod Steps
pub mod Written
pub mod Only
