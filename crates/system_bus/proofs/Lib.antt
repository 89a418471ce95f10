pub mod Lying
pub mod Levels
