pub mod Addresses
pub mod Codes
pub mod Faults
pub mod FiniteMap
pub mod FiniteSet
pub mod Marked
pub mod Words
