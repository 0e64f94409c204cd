pub mod LineSteps
pub mod Shown
pub mod Adding
