pub mod FormLemmas
pub mod Entered
pub mod NamedCases
pub mod PartLists
pub mod ValueLists
pub mod NumberLemmas
pub mod Points
mod Examples
mod ExamplesTrees
mod ExamplesValues
