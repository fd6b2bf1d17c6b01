pub mod Patches
pub mod Positions
pub mod Viewed
