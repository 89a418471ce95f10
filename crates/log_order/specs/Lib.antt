pub mod Order
pub mod Feeding
pub mod Judging
