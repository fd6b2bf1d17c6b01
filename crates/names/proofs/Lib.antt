pub mod Called
pub mod Plain
pub mod Said
pub mod Texts
