-- What the rows of a column name.
use Rattle.std.specs.Prelude.{◌≡◌, ℕ, ◌+◌, ◌-◌, ◌^◌, ◌<◌, ◌≤◌, Bool, false, ◌||◌, List, length, max, min, nat_eq, nat_le, slice_index_or, ⊤}
use Rattle.std.specs.List.{list_any}
use Rattle.match_model.specs.Constructors.{FixedShape, LongerShape, MCtor, RowCtor, least_length}
use Rattle.match_model.specs.Pieces.{fixed_end, longest_front, longest_back}
use Rattle.constructor_sets.specs.declared.lengths.Lengths.{Lengths}
use Rattle.constructor_sets.specs.Columns.{writes}

-- a row has at most 4,294,967,296 items
abbrev pub IsShortRow : MCtor → Type 0
IsShortRow (RowCtor s) = least_length s ≤ 2 ^ 32
IsShortRow _ = ⊤

-- a row of one length is added
pub record AddsFixed (n : ℕ) (old new : Lengths) : Type 0 where
  pub count : length new.marks.items ≡ max (length old.marks.items) (n + 1)
  pub marked : (k : ℕ) → slice_index_or new.marks.items k false ≡ (slice_index_or old.marks.items k false || nat_eq n k)
  pub front : new.front ≡ old.front
  pub back : new.back ≡ old.back
  pub least : new.least ≡ old.least

-- a row with a rest is added
pub record AddsLonger (f b : ℕ) (old new : Lengths) : Type 0 where
  pub marks : new.marks.items ≡ old.marks.items
  pub front : new.front ≡ max old.front f
  pub back : new.back ≡ max old.back b
  pub least : new.least ≡ min old.least (f + b)

-- a head is added
abbrev pub AddsHead : MCtor → (old new : Lengths) → Type 0
AddsHead (RowCtor (FixedShape n)) old new = AddsFixed n old new
AddsHead (RowCtor (LongerShape f b)) old new = AddsLonger f b old new
AddsHead _ old new = new ≡ old

-- a piece of one length, with whether the length is marked, or is at or beyond `least`
abbrev pub length_piece : (marks : List Bool) → (least n : ℕ) → MCtor × Bool
length_piece marks least n = (RowCtor (FixedShape n), slice_index_or marks n false || nat_le least n)

-- what the rows of a column name: where the lengths that rows have alone end, the longest front and the longest back, which
-- of the shorter lengths some row has, and from where on some row has all
pub record AreLengths (heads : List MCtor) (l : Lengths) : Type 0 where
  pub fixed : length l.marks.items ≡ fixed_end heads
  pub front : l.front ≡ longest_front heads
  pub back : l.back ≡ longest_back heads
  pub alone : (n : ℕ) → n < 2 ^ 64 - 1 → (slice_index_or l.marks.items n false || nat_le l.least n) ≡ list_any (writes (RowCtor (FixedShape n))) heads
  pub longer : (n : ℕ) → n < 2 ^ 64 - 1 → nat_le l.least n ≡ list_any (writes (RowCtor (LongerShape n 0))) heads
  pub few : (length l.marks.items ≤ 2 ^ 32 + 1) × (l.front ≤ 2 ^ 32) × (l.back ≤ 2 ^ 32)
