pub mod SlotLaws
pub mod PresenceLaws
pub mod CountLaws
pub mod Cases
