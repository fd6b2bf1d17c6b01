pub mod Table
pub mod Step
pub mod Numbers
pub mod Inner
