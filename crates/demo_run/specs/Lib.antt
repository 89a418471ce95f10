pub mod Guests
pub mod Demos
