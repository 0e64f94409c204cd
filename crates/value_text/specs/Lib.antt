pub mod Names
pub mod Meanings
pub mod Fields
pub mod Reading
pub mod Laws
pub mod Lookups
