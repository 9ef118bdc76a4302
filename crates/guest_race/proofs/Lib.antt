pub mod ChainLemmas
pub mod GrowthLemmas
pub mod HaltLemmas
pub mod RoundLemmas
pub mod SameLemmas
