pub mod Nodes
pub mod Labels
pub mod Graphs
pub mod Places
pub mod Pictures
