pub mod Audits
pub mod Images
pub mod Whole
