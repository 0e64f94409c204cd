pub mod Types
pub mod Maps
