pub mod Drawings
pub mod Films
