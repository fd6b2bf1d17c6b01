pub mod Laws
pub mod Sizes
pub mod Lengths
pub mod EightLaws
pub mod AlikeLaws
pub mod PlaceLaws
