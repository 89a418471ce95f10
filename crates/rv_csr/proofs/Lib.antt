pub mod Times
pub mod Written
