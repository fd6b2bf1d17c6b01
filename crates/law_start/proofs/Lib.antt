pub mod Stand
pub mod Order
pub mod Fields
pub mod Small
pub mod Values
pub mod Written
pub mod Again
pub mod Back
