pub mod Version
pub mod FrameId
pub mod Event
pub mod File
pub mod Refusal
pub mod Mark
pub mod Refused
