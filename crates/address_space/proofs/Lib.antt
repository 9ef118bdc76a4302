pub mod Insides
pub mod Lemmas
pub mod Prelude
pub mod costs
pub mod entries
pub mod frames
pub mod standing
pub mod steps
