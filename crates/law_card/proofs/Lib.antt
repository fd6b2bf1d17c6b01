pub mod Besides
pub mod Forms
pub mod Players
pub mod Files
pub mod Rows
pub mod Pair
pub mod Values
