pub mod Sums
pub mod Drawing
pub mod Finding
