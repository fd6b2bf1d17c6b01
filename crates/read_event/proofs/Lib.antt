pub mod Leaves
pub mod Plans
pub mod Dispatch
pub mod Parts
pub mod Likeness
pub mod Quiet
