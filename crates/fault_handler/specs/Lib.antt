pub mod Below
pub mod Fills
pub mod Looks
pub mod Plans
