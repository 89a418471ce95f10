pub mod Time
pub mod MemoryMap
pub mod Memory
pub mod Access
pub mod Lines
