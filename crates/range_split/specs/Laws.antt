-- What follows from a split's contract.
use Rattle.std.specs.Prelude.{◌≡◌, ℕ, ℤ, ◌<◌, Bool, List, length, slice_index_or, IsTrue}
use Rattle.match_model.specs.Numbers.{MRange, in_range}
use Rattle.range_split.specs.Splits.{IsSplit}
use Rattle.range_split.specs.Ranges.{plain_range}
use Rattle.range_split.specs.declared.range.Range.{Range}

-- two lists of pieces that are splits of the same whole by the same column are equal
abbrev pub SplitIsDetermined : Type 0
SplitIsDetermined =
    (whole : MRange) (columns : List MRange) (ps qs : List (MRange × Bool)) →
    IsSplit whole columns ps → IsSplit whole columns qs → ps ≡ qs

-- the piece at one place has the number, and no piece at another place has it
pub record IsInOnePiece (pieces : List (MRange × Bool)) (n : ℤ) : Type 0 where
  pub place : ℕ
  pub within : place < length pieces
  pub has : (d : MRange × Bool) → IsTrue (in_range (slice_index_or pieces place d).0 n)
  pub only : (k : ℕ) (d : MRange × Bool) → k < length pieces → IsTrue (in_range (slice_index_or pieces k d).0 n) → k ≡ place

-- each number of the whole lies in exactly one piece
abbrev pub NumberIsInOnePiece : Type 0
NumberIsInOnePiece =
    (whole : MRange) (columns : List MRange) (pieces : List (MRange × Bool)) → IsSplit whole columns pieces →
    (n : ℤ) → IsTrue (in_range whole n) → IsInOnePiece pieces n

-- every range of the program has a number
abbrev pub RangeHasNumber : Type 0
RangeHasNumber = (r : Range) → (n : ℤ) × IsTrue (in_range (plain_range r) n)
