pub mod Bits
pub mod Versions
pub mod Refusals
pub mod Numbers
pub mod Tests
pub mod Files
pub mod Cases
