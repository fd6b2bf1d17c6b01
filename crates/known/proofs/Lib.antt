pub mod Newest
pub mod Codes
pub mod Fronts
