pub mod Kinds
pub mod Literals
