pub mod Values
pub mod CpuHandles
pub mod MonitorHandles
