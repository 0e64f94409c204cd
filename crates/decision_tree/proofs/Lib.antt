mod OneFirst
mod Going
mod Beginning
pub mod Based
pub mod LoneRows
pub mod WildColumns
pub mod WildNames
pub mod WildOut
pub mod WildSteps
pub mod WildGood
pub mod WildLeads
pub mod LeftOut
pub mod Pinned
pub mod Telling
pub mod Scoped
pub mod KnownTrees
pub mod SameKnown
pub mod ByArm
pub mod LonePart
mod Reading
mod TypedRows
mod CountingCases
mod FewestSoFar
mod Stepping
mod FirstMatrix
mod Looking
mod Turning
mod LastCases
mod Empty
mod StillInOrder
mod Apart
mod Knowing
mod Asking
mod Changed
mod Cuts
mod Fronts
mod Enough
pub mod Stepwise
mod Blanks
pub mod Marks
pub mod Unmarked
pub mod Open
pub mod RunTests
mod HeadNames
pub mod Shown
pub mod ThinHeads
pub mod ThinGood
pub mod ThinLeads
pub mod ThinMatrix
pub mod InOrder
mod RowAmong
mod SamePieces
pub mod RepeatedHeads
pub mod RepeatedLeads
pub mod RepeatedRows
mod Longer
mod KnownHeads
mod KnownColumns
mod KnownRows
pub mod Passing
pub mod IdleCases
