pub mod Joined
pub mod MetParts
pub mod InOrder
pub mod Cuts
pub mod Bound
pub mod Turns
pub mod Asking
