pub mod Declared
pub mod Returned
