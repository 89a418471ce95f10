pub mod Views
pub mod Rule
pub mod Plays
pub mod Holding
pub mod Shown
pub mod Answers
pub mod Row
