pub mod Authority
pub mod Availability
pub mod Families
