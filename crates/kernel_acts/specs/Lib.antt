pub mod Acts
pub mod Below
pub mod Installed
pub mod Loaded
pub mod Steps
pub mod TakenBack
pub mod Touched
pub mod Transfers
