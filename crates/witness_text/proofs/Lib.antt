mod Examples
pub mod Adding
pub mod Digits
pub mod Lists
pub mod Written
pub mod PlainTexts
pub mod Points
