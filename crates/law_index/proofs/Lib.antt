pub mod Only
pub mod Held
pub mod Through
pub mod Cuts
pub mod Counted
pub mod Short
