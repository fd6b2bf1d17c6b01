pub mod Frames
pub mod Stores
pub mod Zero
pub mod MatchTails
pub mod Held
