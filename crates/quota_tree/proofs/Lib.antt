mod AccountLemmas
pub mod BookFacts
mod Closes
pub mod CollectedLemmas
pub mod Prelude
mod Splits
pub mod Sums
mod Views
mod Writes
