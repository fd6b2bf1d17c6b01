pub mod Laws
pub mod Rising
pub mod Cases
