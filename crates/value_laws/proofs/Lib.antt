pub mod OwnNames
pub mod Ordered
pub mod Leaves
pub mod Paths
pub mod Again
pub mod Canonical
pub mod Shorts
