pub mod Causes
pub mod Counts
pub mod Told
pub mod Named
pub mod Memory
