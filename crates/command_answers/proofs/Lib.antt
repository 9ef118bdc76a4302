pub mod FileFaults
pub mod FirstValue
pub mod FrontLemmas
pub mod OptionLemmas
pub mod Writers
