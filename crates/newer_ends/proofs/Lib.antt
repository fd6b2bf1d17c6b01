pub mod Tests
pub mod Found
pub mod Cases
