pub mod Tree
pub mod Fill
