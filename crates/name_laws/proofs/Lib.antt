pub mod Composed
pub mod Keywords
pub mod Tables
