pub mod Slots
pub mod Bytes
pub mod Returned
