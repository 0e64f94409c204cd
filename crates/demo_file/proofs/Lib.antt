pub mod ArmLists
pub mod Pieces
