pub mod TreeFacts
pub mod OneReadingList
pub mod Held
