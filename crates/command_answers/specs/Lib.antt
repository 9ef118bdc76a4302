pub mod Answers
pub mod Faults
pub mod Files
pub mod Options
