pub mod ToldLemmas
pub mod OpeningLemmas
pub mod Fronts
mod ClockLemmas
