pub mod Laws
pub mod Slots
pub mod Back
pub mod Presence
pub mod Offsets
