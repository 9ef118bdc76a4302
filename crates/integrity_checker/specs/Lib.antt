pub mod Drawn
pub mod Found
pub mod Held
pub mod Steps
