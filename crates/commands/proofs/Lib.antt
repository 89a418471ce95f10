pub mod Opened
pub mod Fresh
pub mod Logs
pub mod Ran
pub mod Played
pub mod LogLimits
pub mod Replayed
pub mod Counting
