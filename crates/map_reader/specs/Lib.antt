pub mod Answer
pub mod Back
pub mod Inner
pub mod Read
