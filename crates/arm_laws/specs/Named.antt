-- Programs whose names are identifiers.
pub use Rattle.file_names.specs.Named.{AreFieldNames, IsNamedForm, IsNamedVariant, AreNamedVariants, IsNamedItem}
pub use Rattle.file_names.specs.Named.{AreNames}
