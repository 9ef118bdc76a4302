pub mod CachedTables
pub mod CallParts
pub mod Law
pub mod Simulation
pub mod WideAccesses
pub mod WorkedMoves
