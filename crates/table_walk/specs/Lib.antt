pub mod Walk
pub mod Marks
