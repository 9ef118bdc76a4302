pub mod Leads
pub mod MarkLemmas
