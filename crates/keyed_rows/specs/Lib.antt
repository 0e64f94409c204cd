pub mod Dividing
pub mod Parting
pub mod Laws
