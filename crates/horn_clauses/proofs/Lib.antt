pub mod Models
mod Waits
pub mod Growing
