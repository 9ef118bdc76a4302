pub mod LongMode
pub mod Moves
pub mod Wide
pub mod WorkedRun
