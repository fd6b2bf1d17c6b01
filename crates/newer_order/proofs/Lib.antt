pub mod Laws
pub mod Newest
