pub mod Book
pub mod Collected
pub mod Containers
pub mod Invariant
pub mod Accounts
