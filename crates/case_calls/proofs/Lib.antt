pub mod RowLaws
pub mod CountLaws
pub mod BlockLaws
