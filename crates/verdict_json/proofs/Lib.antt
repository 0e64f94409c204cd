pub mod EntryLines
pub mod ArmLines
pub mod Lines
pub mod OutcomeLines
pub mod Counts
