pub mod Parts
pub mod Enough
pub mod Largest
pub mod Twelve
pub mod Every
