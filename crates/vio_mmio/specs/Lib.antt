pub mod Descriptors
pub mod FirstBroken
pub mod GiveBack
pub mod Map
pub mod Registers
pub mod Ring
pub mod Spread
