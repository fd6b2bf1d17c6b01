pub mod Games
pub mod Table
