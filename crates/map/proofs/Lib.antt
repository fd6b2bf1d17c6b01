pub mod Judging
pub mod KeyLaws
pub mod Laws
pub mod Numbers
pub mod Only
pub mod Outcomes
pub mod Turns
