pub mod DecimalLemmas
pub mod OutputLemmas
