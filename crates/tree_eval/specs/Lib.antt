pub mod Views
pub mod Nodes
pub mod Tables
pub mod Trees
