pub mod Places
pub mod Tests
pub mod Runs
pub mod Copies
pub mod Cases
