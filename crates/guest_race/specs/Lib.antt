pub mod Asked
pub mod Causes
pub mod Programs
pub mod Rounds
