pub mod Productions
pub mod WellFormed
pub mod Readable
pub mod Sound
pub mod Machine
pub mod Whole
