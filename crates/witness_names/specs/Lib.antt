pub mod Named
pub mod Lookups
pub mod NamedTrees
pub mod NamedValues
pub mod Points
