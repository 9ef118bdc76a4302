pub mod LongWords
pub mod LongWalk
pub mod Shadow
pub mod Needs
pub mod Kernel
pub mod Holdings
pub mod Tables
pub mod Laws
