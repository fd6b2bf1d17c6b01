pub mod Inner
pub mod Game
pub mod Read
