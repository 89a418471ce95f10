pub mod Openings
pub mod Causes
pub mod Texts
pub mod Messages
pub mod RawWords
pub mod Answers
pub mod ReplayedAlike
