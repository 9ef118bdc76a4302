pub mod Shadows
pub mod Windows
pub mod Worked
