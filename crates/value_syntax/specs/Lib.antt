pub mod Canonical
pub mod Grammar
pub mod Laws
pub mod Texts
pub mod Trees
pub mod ValueReading
