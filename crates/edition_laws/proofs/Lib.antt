pub mod NodesKept
pub mod TestsMet
pub mod PatternsMove
pub mod AlikeArms
pub mod Agreed
