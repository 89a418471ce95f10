pub mod Telling
pub mod Completing
pub mod Statuses
pub mod ReplayedAlike
mod Checking
mod Debugging
