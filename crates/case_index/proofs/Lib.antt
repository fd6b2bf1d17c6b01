pub mod Small
pub mod Case6
