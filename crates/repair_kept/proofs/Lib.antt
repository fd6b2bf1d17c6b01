pub mod Same
pub mod Around
pub mod Kept
pub mod Field
pub mod Accepts
pub mod Longest
