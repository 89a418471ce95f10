pub mod Feeding
pub mod Advancing
pub mod Following
pub mod Verdicts
pub mod Recorded
pub mod EndKinds
