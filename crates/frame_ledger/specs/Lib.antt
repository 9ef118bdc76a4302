pub mod FreeFrames
pub mod FreeList
