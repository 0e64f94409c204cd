pub mod Numbers
pub mod Ends
pub mod Ranges
pub mod Splits
pub mod Order
pub mod Cuts
pub mod Walks
pub mod Laws
