-- What it means that a value meets a range along a path: the numbers of the patterns below that lead to the range from the
-- outside in, alternatives included (our own choice, after the lint on overlapping range endpoints).
use Rattle.std.specs.Prelude.{◌≡◌, ◌≢◌, ◌⊎◌, ℕ, ℤ, Bool, false, not, List, [], ◌∷◌, length, slice_get, Some, IsTrue}
use Rattle.match_model.specs.Values.{MValue, Num, part_at_position}
use Rattle.match_model.specs.Numbers.{MRange, has_one_number}
use Rattle.match_model.specs.Constructors.{NumbersCtor, OrCtor, builds}
use Rattle.match_model.specs.Match.{is_empty_list}
use Rattle.match_model.specs.ArenaPatterns.{MDePat, ctor_of, at_of, subs_of}
use Rattle.match_model.specs.ArenaWays.{NumberedPart, parts_built, arena_ways}
use Rattle.match_model.specs.Overlaps.{MeetAt}

-- the pattern matches the value: it has a way
abbrev pub matches : {T : Type 0} → MDePat T → MValue → Bool
matches p v = not (is_empty_list (arena_ways p v))

-- the pattern is this range of more than one number, at this offset, and has the value
pub record RangeMet {T : Type 0} (p : MDePat T) (v : MValue) (position : List ℕ) (offset : ℕ) (r : MRange) : Type 0 where
  pub several : has_one_number r ≡ false
  pub ctor : ctor_of p ≡ NumbersCtor r
  pub bare : subs_of p ≡ []
  pub build : IsTrue (builds [] (NumbersCtor r) v)
  pub position_is : position ≡ []
  pub at_is : at_of p ≡ offset

-- the pattern is an or-pattern, and its alternative with the number `i` goes on so
pub record AlternativeAlong {T : Type 0} (p : MDePat T) (i : ℕ) (Below : MDePat T → Type 0) : Type 0 where
  pub is_or : ctor_of p ≡ OrCtor
  pub sub : MDePat T
  pub sub_there : slice_get (subs_of p) i ≡ Some sub
  pub below : Below sub

-- the pattern's constructor builds the value, each pattern below but that with the number `i` matches its part, and that one
-- goes on so at its part
pub record PartAlong {T : Type 0} (p : MDePat T) (i : ℕ) (v : MValue) (position : List ℕ) (Below : MDePat T → MValue → List ℕ → Type 0) : Type 0 where
  pub parts : List NumberedPart
  pub built : parts_built (ctor_of p) v ≡ Some parts
  pub count : length parts ≡ length (subs_of p)
  pub sub : MDePat T
  pub sub_there : slice_get (subs_of p) i ≡ Some sub
  pub part : NumberedPart
  pub part_there : slice_get parts i ≡ Some part
  pub inner : List ℕ
  pub position_is : position ≡ part.number ∷ inner
  pub below : Below sub part.part inner
  pub others : (j : ℕ) (q : MDePat T) (n : NumberedPart) → j ≢ i → slice_get (subs_of p) j ≡ Some q →
      slice_get parts j ≡ Some n → IsTrue (matches q n.part)

-- the pattern matches the value through the patterns on the path, at whose end stands the range of more than one number, at
-- the offset; the range has the part of the value at the position
abbrev pub MeetsAlong : {T : Type 0} → MDePat T → (path : List ℕ) → MValue → (position : List ℕ) → (offset : ℕ) → MRange → Type 0
MeetsAlong p [] v position offset r = RangeMet p v position offset r
MeetsAlong p (i ∷ rest) v position offset r =
    AlternativeAlong p i (λ q. MeetsAlong q rest v position offset r)
    ⊎ PartAlong p i v position (λ q u inner. MeetsAlong q rest u inner offset r)

-- at the end of the path stands a range of more than one number, at the offset
abbrev pub EndsAt : {T : Type 0} → MDePat T → (path : List ℕ) → (offset : ℕ) → MRange → Type 0
EndsAt p [] offset r = (ctor_of p ≡ NumbersCtor r) × (has_one_number r ≡ false) × (at_of p ≡ offset)
EndsAt {T} p (i ∷ rest) offset r = (q : MDePat T) × (slice_get (subs_of p) i ≡ Some q) × EndsAt q rest offset r

-- at the ends of the two paths stand two ranges that meet at one number
pub record Touching {T : Type 0} (p : MDePat T) (path : List ℕ) (q : MDePat T) (other : List ℕ) : Type 0 where
  pub first_at : ℕ
  pub second_at : ℕ
  pub first_range : MRange
  pub second_range : MRange
  pub number : ℤ
  pub first : EndsAt p path first_at first_range
  pub second : EndsAt q other second_at second_range
  pub meet : MeetAt first_range second_range number

-- some value of the type is matched by both patterns along their paths, at one position, where the one common number of the
-- two ranges stands
pub record MeetTogether {T : Type 0} (IsValue : T → Bool → MValue → Type 0) (t : T) (sure : Bool) (p : MDePat T) (path : List ℕ) (q : MDePat T) (other : List ℕ) : Type 0 where
  pub value : MValue
  pub is : IsValue t sure value
  pub position : List ℕ
  pub first_at : ℕ
  pub second_at : ℕ
  pub first_range : MRange
  pub second_range : MRange
  pub number : ℤ
  pub first : MeetsAlong p path value position first_at first_range
  pub second : MeetsAlong q other value position second_at second_range
  pub is_number : part_at_position position value ≡ Some (Num number)
  pub meet : MeetAt first_range second_range number
