-- What the patterns of the source keep to: how the ends of a written range are brought to numbers of its type, and what
-- numbers and offsets they have (Rust Reference, Patterns).
use Rattle.std.specs.Prelude.{ℕ, ℤ, pos, ◌-ℤ◌, Bool, true, false, ◌&&◌, List, [], ◌∷◌, ◌++◌, Option, Some, None, nat_lt}
use Rattle.match_model.specs.declared.Width.{Width}
use Rattle.match_model.specs.Types.{MType}
use Rattle.match_model.specs.Numbers.{MEnd, Free, At, is_at, MRange, ends_ascend, numbers_of}
use Rattle.match_model.specs.Patterns.{MPat, WildPat, NumPat, FlagPat, TextPat, SpanPat, BindPat, FormPat, ListPat, PointPat, OrPat, MPats, no_pats, more_pats, MNumbered, no_numbered, more_numbered, numbers_in, all_differ}
use Rattle.match_model.specs.Match.{Alternatives, no_alternative, alternative, alternatives_in}

-- the last number of the range before, where the number begins the range behind it; else one less
abbrev pub before_by : (last : MEnd) → (begins : Bool) → ℤ → ℤ
before_by (At m) true n = m
before_by (At m) false n = n -ℤ pos 1
before_by Free begins n = n -ℤ pos 1

-- the number of a type right before this one; a hole between two ranges is passed over
abbrev pub number_before : List MRange → ℤ → ℤ
number_before [] n = n -ℤ pos 1
number_before (r ∷ []) n = n -ℤ pos 1
number_before (r ∷ s ∷ rest) n = before_by r.high (is_at n s.low) n

-- the low end of the first range
abbrev pub least_end : List MRange → MEnd
least_end [] = Free
least_end (r ∷ rest) = r.low

-- the high end of the last range
abbrev pub greatest_end : List MRange → MEnd
greatest_end [] = Free
greatest_end (r ∷ []) = r.high
greatest_end (r ∷ s ∷ rest) = greatest_end (s ∷ rest)

-- a low end as written, or the type's least number
abbrev pub low_written : List MRange → Option ℤ → MEnd
low_written ranges None = least_end ranges
low_written ranges (Some n) = At n

-- a high end as written, the value before it where it is exclusive, or the type's greatest number
abbrev pub high_written : List MRange → (inclusive : Bool) → Option ℤ → MEnd
high_written ranges inclusive None = greatest_end ranges
high_written ranges true (Some n) = At n
high_written ranges false (Some n) = At (number_before ranges n)

-- the range that a written one means at a type, by its ends where they are written (Rust Reference, Range patterns); an
-- open end stays free only where the type has no least or greatest number
abbrev pub written_range : Width → MType → (low : Option ℤ) → (inclusive : Bool) → (high : Option ℤ) → MRange
written_range width t low inclusive high = record {
  low = low_written (numbers_of width t) low;
  high = high_written (numbers_of width t) inclusive high;
}

-- two alternatives or more
abbrev pub two_or_more : MNumbered → Bool
two_or_more no_numbered = false
two_or_more (more_numbered at p no_numbered) = false
two_or_more (more_numbered at p (more_numbered bt q ps)) = true

abbrev mutual
  -- the pattern is as the source can have it: or-patterns have two alternatives or more, no field is written twice, and no
  -- range is empty
  pub is_formed : MPat → Bool
  is_formed WildPat = true
  is_formed (NumPat n) = true
  is_formed (FlagPat b) = true
  is_formed (TextPat t) = true
  is_formed (SpanPat at r) = ends_ascend r.low r.high
  is_formed (BindPat name written p) = is_formed p
  is_formed (FormPat k fields) = all_differ (numbers_in fields) && numbered_are_formed fields
  is_formed (ListPat front rest back) = items_are_formed front && items_are_formed back
  is_formed (PointPat mutable p) = is_formed p
  is_formed (OrPat alternatives) = two_or_more alternatives && numbered_are_formed alternatives

  -- the patterns of a list are as the source can have them
  pub items_are_formed : MPats → Bool
  items_are_formed no_pats = true
  items_are_formed (more_pats p ps) = is_formed p && items_are_formed ps

  -- the fields or alternatives are as the source can have them
  pub numbered_are_formed : MNumbered → Bool
  numbered_are_formed no_numbered = true
  numbered_are_formed (more_numbered n p ps) = is_formed p && numbered_are_formed ps

-- the names that a trace has for the alternatives
abbrev pub ids_in : Alternatives → List ℕ
ids_in no_alternative = []
ids_in (alternative id at inside others) = id ∷ (ids_in inside ++ ids_in others)

-- a trace tells the alternatives of the pattern apart
abbrev pub offsets_differ : MPat → Bool
offsets_differ p = all_differ (ids_in (alternatives_in p))

-- each number is below the next
abbrev pub ascend : List ℕ → Bool
ascend [] = true
ascend (n ∷ []) = true
ascend (n ∷ m ∷ ns) = nat_lt n m && ascend (m ∷ ns)

-- the offsets of the alternatives ascend in reading order
abbrev pub offsets_ascend : MPat → Bool
offsets_ascend p = ascend (ids_in (alternatives_in p))
