pub mod PortLaws
pub mod CellLaws
pub mod OffsetLaws
pub mod Accepted
pub mod Opens
pub mod Cases
