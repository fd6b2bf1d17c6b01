pub mod Laws
pub mod Lengths
pub mod Lists
pub mod Cases
