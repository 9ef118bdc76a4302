pub mod JobLemmas
pub mod ValueLemmas
pub mod CommandLemmas
pub mod WholeLemmas
