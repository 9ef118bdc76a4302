pub mod Images
pub mod Jobs
pub mod Whole
