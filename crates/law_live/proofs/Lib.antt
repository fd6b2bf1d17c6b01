pub mod Parts
pub mod Runs
pub mod Judged
pub mod Whole
pub mod Unclosed
pub mod Disk
