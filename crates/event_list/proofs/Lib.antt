pub mod Told
pub mod ListSteps
pub mod Fronts
