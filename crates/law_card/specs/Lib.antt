pub mod Card
pub mod Marks
