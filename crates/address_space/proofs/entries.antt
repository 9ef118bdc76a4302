-- Lemmas on entries, and on the spaces that they represent.
pub mod EntrySteps
pub mod Readings
pub mod Refinement
pub mod Removal
pub mod Staying
pub mod UserSlots
