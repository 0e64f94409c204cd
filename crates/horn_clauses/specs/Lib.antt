pub mod Derivations
pub mod Marks
pub mod Waiting
pub mod Growing
pub mod Laws
