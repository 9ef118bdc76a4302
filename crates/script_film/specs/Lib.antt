pub mod Rows
pub mod Changes
pub mod Film
pub mod Recordings
