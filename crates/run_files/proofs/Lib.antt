pub mod Roles
pub mod FileHeld
pub mod Headed
