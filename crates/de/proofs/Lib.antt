pub mod Runs
pub mod Cuts
pub mod EveryCut
pub mod Unfilled
pub mod Only
pub mod Cases
pub mod Opens
