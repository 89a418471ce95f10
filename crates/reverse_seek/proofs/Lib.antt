pub mod Turns
pub mod Standing
pub mod Reading
pub mod Strides
pub mod Kept
pub mod Nearest
pub mod Opening
pub mod Parting
pub mod Least
mod LastAt
pub mod Lying
