pub mod AloneLemmas
pub mod Chains
pub mod HeardLemmas
pub mod RunLemmas
