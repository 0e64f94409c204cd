mod Examples
pub mod Plain
pub mod Written
