pub mod Filling
pub mod NoneComing
