pub mod Payloads
pub mod Again
pub mod Called
