pub mod Below
pub mod Columns
pub mod Splits
pub mod Rows
pub mod Arrays
pub mod Determined
