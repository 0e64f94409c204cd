pub mod Positions
pub mod Filled
pub mod Engine
pub mod Fits
pub mod Names
pub mod Good
pub mod Piecewise
