pub mod Graphs
pub mod Numbers
pub mod Searched
pub mod Components
pub mod Laws
pub mod Groups
