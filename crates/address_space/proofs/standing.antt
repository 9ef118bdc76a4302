-- What memory's words represent, and how walks end.
pub mod FramesStand
pub mod Restored
pub mod Standing
pub mod TablesStand
pub mod WaysStand
