-- What a split of numbers is.
use Rattle.std.specs.Prelude.{◌≡◌, ◌≢◌, ℤ, Bool, not, ◌&&◌, List, map, length, IsTrue}
use Rattle.std.specs.List.{All, AllPairs, AllAdjacentBelow, Contains, list_any}
use Rattle.match_model.specs.Numbers.{MRange, in_range}
use Rattle.match_model.specs.Constructors.{NumbersCtor, has_piece, is_free, least_held, greatest_held}
use Rattle.match_model.specs.Pieces.{IsCut, is_at}
use Rattle.range_split.specs.declared.range.Range.{Range}
use Rattle.range_split.specs.Ranges.{plain_range, IsBelow}

-- the ranges of a column
abbrev pub plain_ranges : List Range → List MRange
plain_ranges ranges = map plain_range ranges

-- the pieces, each with its flag
abbrev pub plain_pieces : List (Range × Bool) → List (MRange × Bool)
plain_pieces pieces = map (λ p. (plain_range p.0, p.1)) pieces

-- where the whole is free below, the range does not begin at the least number that can be held, so the number before can
-- be held
abbrev pub HasRoomBelow : (whole column : MRange) → Type 0
HasRoomBelow whole column = IsTrue (not (is_free whole.low && is_at least_held column.low))

-- where the whole is free above, the range does not end at the greatest number that can be held
abbrev pub HasRoomAbove : (whole column : MRange) → Type 0
HasRoomAbove whole column = IsTrue (not (is_free whole.high && is_at greatest_held column.high))

-- some range of the column has every number of the piece
abbrev pub some_has : (columns : List MRange) → (piece : MRange) → Bool
some_has columns piece = list_any (λ r. has_piece (NumbersCtor r) (NumbersCtor piece)) columns

-- the range has all numbers of the piece or none of them
abbrev pub IsOnOneSide : (piece range : MRange) → Type 0
IsOnOneSide piece r = (m n : ℤ) → IsTrue (in_range piece m) → IsTrue (in_range piece n) → in_range r m ≡ in_range r n

-- some range of the column has the numbers of one of the two pieces and not those of the other
abbrev pub AreToldApart : (columns : List MRange) → (p q : MRange) → Type 0
AreToldApart columns p q =
    (r : MRange) × Contains columns r × ((m n : ℤ) → IsTrue (in_range p m) → IsTrue (in_range q n) → in_range r m ≢ in_range r n)

-- the pieces of a range of numbers by the ranges of a column, with their flags
pub record IsSplit (whole : MRange) (columns : List MRange) (pieces : List (MRange × Bool)) : Type 0 where
  -- the pieces of the definitions: cut where a range of the column begins and behind where one ends, and nowhere else
  pub cut : IsCut whole columns (map (λ p. p.0) pieces)
  -- a piece's flag says whether some range of the column has the piece
  pub flagged : All (λ p. p.1 ≡ some_has columns p.0) pieces
  -- the pieces together have the numbers of the whole
  pub together : (n : ℤ) → list_any (λ p. in_range p.0 n) pieces ≡ in_range whole n
  -- each piece is below all later ones, so no two share a number
  pub ascending : AllPairs (λ p q. IsBelow p.0 q.0) pieces
  -- each range of the column has all of a piece or nothing of it
  pub on_one_side : All (λ p. All (IsOnOneSide p.0) columns) pieces
  -- two neighbours differ in some range of the column
  pub told_apart : AllAdjacentBelow (λ p q. AreToldApart columns p.0 q.0) pieces (length pieces)
