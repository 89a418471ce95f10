pub mod Number
pub mod Icount
pub mod Words
pub mod Line
pub mod Grammar
