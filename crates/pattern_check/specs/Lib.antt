pub mod Checking
pub mod TypeTests
pub mod NodeForms
pub mod Walks
pub mod FunctionFaults
pub mod BoundSets
