pub mod Finals
pub mod Laws
pub mod Only
pub mod Live
