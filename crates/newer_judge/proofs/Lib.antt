pub mod Walks
pub mod Opening
pub mod Lists
pub mod Stages
pub mod Before
pub mod Steps
