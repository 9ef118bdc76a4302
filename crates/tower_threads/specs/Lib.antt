pub mod Calls
pub mod Codes
pub mod Handles
pub mod HeldCpu
pub mod HeldMonitor
pub mod Rows
pub mod Seated
