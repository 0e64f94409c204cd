pub mod Selections
pub mod Parts
pub mod Bound
pub mod Names
pub mod Asking
