pub mod Fields
pub mod Records
pub mod Reading
pub mod Skimming
pub mod Arms
