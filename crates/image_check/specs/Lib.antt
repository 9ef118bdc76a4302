pub mod Counts
pub mod WordTests
pub mod Verdict
pub mod Adds
pub mod Draws
pub mod Told
pub mod Codes
pub mod Text
