-- The lengths of rows that are tried for two patterns.
use Rattle.std.specs.Prelude.{◌<◌, ⊤, ℕ, ◌+◌, ◌-◌, max, length, Bool, true, false, ◌&&◌, Some, None}
use Rattle.match_model.specs.Constructors.{MSet, RowSet, LongerShape, MCtor, RowCtor}
use Rattle.match_model.specs.ArenaPatterns.{ctor_of, subs_of}
use Rattle.match_model.specs.Rows.{Head}
use Rattle.pattern_lints.specs.Meeting.{IsSharp, head_front, head_back, Spot}

-- the least length of a row for the pattern
abbrev pub head_least : {T : Type 0} → Head T → ℕ
head_least h = head_front h + head_back h

-- the length of which each item is written by one of the two
abbrev pub greatest_length : {T : Type 0} → (h g : Head T) → ℕ
greatest_length h g = max (head_front h) (head_front g) + max (head_back h) (head_back g)

-- a row with a rest
abbrev pub is_longer : MCtor → Bool
is_longer (RowCtor (LongerShape f b)) = true
is_longer _ = false

-- a row with a rest, or no pattern at all
abbrev pub leaves_room : {T : Type 0} → Head T → Bool
leaves_room None = true
leaves_room (Some p) = is_longer (ctor_of p)

-- only the greatest length is tried: both leave room, and no two patterns below are to stand at one part
abbrev pub greatest_alone : {T : Type 0} → Spot → (h g : Head T) → Bool
greatest_alone None h g = leaves_room h && leaves_room g
greatest_alone (Some s) h g = false

-- the first length of a slice to try, and how many: the greatest alone, or all from the least common one up to it
abbrev pub slice_lengths : {T : Type 0} → (alone : Bool) → (h g : Head T) → ℕ × ℕ
slice_lengths true h g = (greatest_length h g, 1)
slice_lengths false h g =
    (max (head_least h) (head_least g), greatest_length h g - max (head_least h) (head_least g) + 1)

-- the first length to try, and how many: of an array its one
abbrev pub tried_lengths : {T : Type 0} → MSet → Spot → (h g : Head T) → ℕ × ℕ
tried_lengths (RowSet (Some n)) spot h g = (n, 1)
tried_lengths _ spot h g = slice_lengths (greatest_alone spot h g) h g

-- there is no pattern, or one that is no wildcard and no or-pattern
abbrev pub IsSharpHead : {T : Type 0} → Head T → Type 0
IsSharpHead None = ⊤
IsSharpHead (Some p) = IsSharp (ctor_of p)

-- the pattern has one below it with the number
abbrev pub HasSub : {T : Type 0} → Head T → ℕ → Type 0
HasSub None i = ⊥
HasSub (Some p) i = i < length (subs_of p)

-- the numbers are those of patterns below the two
abbrev pub IsSpotOf : {T : Type 0} → (h g : Head T) → Spot → Type 0
IsSpotOf h g None = ⊤
IsSpotOf h g (Some s) = HasSub h s.0 × HasSub g s.1

-- the first number, where there is one, is below the count
abbrev pub SpotIsBelow : Spot → (count : ℕ) → Type 0
SpotIsBelow None count = ⊤
SpotIsBelow (Some s) count = s.0 < count
