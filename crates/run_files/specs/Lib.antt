pub mod Ledgers
pub mod Headers
pub mod Files
pub mod Firmwares
pub mod Images
