pub mod Lengths
pub mod Refusals
pub mod Samples
pub mod Cases
pub mod Blocks
pub mod BlockCases
pub mod Views
pub mod Tails
