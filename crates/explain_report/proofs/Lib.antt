pub mod Parts
pub mod ReadLists
pub mod Skims
pub mod ReadArms
