pub mod Roles
pub mod Free
pub mod Weights
pub mod Invariant
