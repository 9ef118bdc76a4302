pub mod Accesses
pub mod Flags
pub mod MapLemmas
pub mod SetLemmas
pub mod Marks
pub mod OptionLemmas
