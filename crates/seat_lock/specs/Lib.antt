pub mod Locks
pub mod Places
