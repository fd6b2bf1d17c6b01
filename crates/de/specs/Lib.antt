pub mod Walk
pub mod Numbers
pub mod Cut
pub mod Inner
