pub mod Intake
pub mod PacketFile
