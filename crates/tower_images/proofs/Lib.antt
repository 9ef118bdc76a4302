pub mod TellLemmas
pub mod WholeLemmas
