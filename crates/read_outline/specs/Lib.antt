pub mod End
pub mod Listed
pub mod Inner
