pub mod Laws
pub mod Only
pub mod Cases
mod Streams
