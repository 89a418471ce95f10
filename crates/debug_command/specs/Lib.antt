pub mod Debugs
pub mod Causes
