pub mod Guests
pub mod Laws
pub mod Ports
pub mod Runs
