pub mod Filled
pub mod Looked
pub mod OnePage
pub mod Prelude
pub mod Settled
pub mod Walked
