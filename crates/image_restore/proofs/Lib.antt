pub mod FailLemmas
pub mod OfferLemmas
pub mod OffersTaken
pub mod Places
pub mod Resuming
