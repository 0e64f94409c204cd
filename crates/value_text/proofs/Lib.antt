pub mod Orders
pub mod MeantValues
pub mod FormKinds
pub mod LeafLemmas
pub mod FieldsFound
pub mod Readings
