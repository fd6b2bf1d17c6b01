pub mod Judged
pub mod Shown
pub mod Marks
pub mod Reach
pub mod Slotting
pub mod Only
pub mod Floats
pub mod Cases
