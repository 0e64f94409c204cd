pub mod Values
pub mod Lines
pub mod Spans
pub mod Replacements
pub mod Diagnostics
pub mod Texts
