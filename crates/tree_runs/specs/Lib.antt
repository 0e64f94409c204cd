pub mod Parts
pub mod Held
pub mod Runs
pub mod Turns
pub mod Laws
