pub mod Places
pub mod Codes
