pub mod Laws
pub mod Stands
pub mod Same
pub mod Back
pub mod Cases
