-- What follows from a split's contract.
use Rattle.std.specs.Prelude.{◌≡◌, ℕ, ◌<◌, Bool, List, length, slice_index_or, Option, IsTrue}
use Rattle.match_model.specs.Constructors.{MShape, covers, allows_length}
use Rattle.slice_split.specs.Lengths.{IsSplit}

-- two lists of pieces that are splits of the same column are equal
abbrev pub SplitIsDetermined : Type 0
SplitIsDetermined =
    (whole : Option ℕ) (columns : List MShape) (ps qs : List (MShape × Bool)) →
    IsSplit whole columns ps → IsSplit whole columns qs → ps ≡ qs

-- the piece at one place has the length, and no piece at another place has it
pub record IsInOnePiece (pieces : List (MShape × Bool)) (n : ℕ) : Type 0 where
  pub place : ℕ
  pub within : place < length pieces
  pub has : (d : MShape × Bool) → IsTrue (covers (slice_index_or pieces place d).0 n)
  pub only : (k : ℕ) (d : MShape × Bool) → k < length pieces → IsTrue (covers (slice_index_or pieces k d).0 n) → k ≡ place

-- each length that there is lies in exactly one piece
abbrev pub LengthIsInOnePiece : Type 0
LengthIsInOnePiece =
    (whole : Option ℕ) (columns : List MShape) (pieces : List (MShape × Bool)) → IsSplit whole columns pieces →
    (n : ℕ) → IsTrue (allows_length whole n) → IsInOnePiece pieces n
