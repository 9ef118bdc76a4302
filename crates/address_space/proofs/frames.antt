-- Lemmas on frames: how they change, and how many slots hold a page.
pub mod FewHolders
pub mod FrameSteps
pub mod PageSteps
