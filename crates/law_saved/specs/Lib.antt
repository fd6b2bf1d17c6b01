pub mod Admitted
pub mod Again
pub mod Returned
