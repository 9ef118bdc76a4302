pub mod Failing
pub mod Alike
pub mod Restored
pub mod Resumed
