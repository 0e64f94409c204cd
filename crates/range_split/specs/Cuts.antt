-- Where the ranges of a column begin and end inside a whole.
use Rattle.std.specs.Prelude.{◌≡◌, ◌+◌, ℕ, ℤ, pos, ◌+ℤ◌, int_le, Bool, true, false, not, ◌&&◌, ◌||◌, if◌then◌else◌, List, [], ◌∷◌, ◌++◌, map, nat_eq, IsTrue, ⊤}
use Rattle.std.specs.List.{All, count_by, flat_map, list_any}
use Rattle.std.specs.Ordering.{int_eq}
use Rattle.match_model.specs.Numbers.{MEnd, Free, At, MRange, in_range, is_from}
use Rattle.match_model.specs.Constructors.{low_within}
use Rattle.match_model.specs.Pieces.{Follow, is_at}
use Rattle.range_split.specs.declared.cut.Cut.{Cut}
use Rattle.range_split.specs.Numbers.{signed}
use Rattle.range_split.specs.Ends.{ends_ascend}

-- the number behind a cut
abbrev pub cut_number : Cut → ℤ
cut_number c = signed c.negative c.size

-- the number behind a cut, and whether a range begins there or has ended
abbrev pub plain_cut : Cut → ℤ × Bool
plain_cut c = (cut_number c, c.begins)

abbrev pub plain_cuts : List Cut → List (ℤ × Bool)
plain_cuts cuts = map plain_cut cuts

-- a range with this low end begins inside the whole: at one of its numbers, but not at its own low end
abbrev pub begin_cut : (whole : MRange) → (low : MEnd) → List (ℤ × Bool)
begin_cut whole Free = []
begin_cut whole (At a) = if in_range whole a && not (is_at a whole.low) then (a, true) ∷ [] else []

-- a range with this high end ends inside the whole: at one of its numbers, but not at its own high end
abbrev pub end_cut : (whole : MRange) → (high : MEnd) → List (ℤ × Bool)
end_cut whole Free = []
end_cut whole (At b) = if in_range whole b && not (is_at b whole.high) then (b +ℤ pos 1, false) ∷ [] else []

-- the cuts that one range makes inside the whole
abbrev pub cuts_by : (whole range : MRange) → List (ℤ × Bool)
cuts_by whole r = begin_cut whole r.low ++ end_cut whole r.high

-- the cuts that the ranges of a column make inside the whole
abbrev pub cuts_of : (whole : MRange) → (columns : List MRange) → List (ℤ × Bool)
cuts_of whole columns = flat_map (cuts_by whole) columns

-- the range has the first numbers of the whole
abbrev pub has_start : (whole range : MRange) → Bool
has_start whole r = low_within r.low whole.low && ends_ascend whole.low r.high

-- the cuts ascend from the low end on
abbrev pub Rise : (low : MEnd) → List (ℤ × Bool) → Type 0
Rise low [] = ⊤
Rise low (c ∷ cuts) = IsTrue (is_from low c.0) × Rise (At c.0) cuts

-- how many ranges have begun at or before the number, and how many have ended before it
abbrev pub begun_at : ℤ → List (ℤ × Bool) → ℕ
begun_at n cuts = count_by (λ c. c.1 && int_le c.0 n) cuts

abbrev pub ended_at : ℤ → List (ℤ × Bool) → ℕ
ended_at n cuts = count_by (λ c. not c.1 && int_le c.0 n) cuts

-- the pieces between ascending cuts of a whole, of which `begun` ranges have the first numbers
pub record AreBetween (whole : MRange) (begun : ℕ) (cuts : List (ℤ × Bool)) (pieces : List (MRange × Bool)) : Type 0 where
  -- they follow one another from end to end
  pub together : Follow whole.low whole.high (map (λ p. p.0) pieces)
  -- a piece begins at the low end of the whole and at each cut
  pub starts : (n : ℤ) → list_any (λ p. is_at n p.low) (map (λ p. p.0) pieces) ≡ (is_at n whole.low || list_any (λ c. int_eq n c.0) cuts)
  -- the flag says whether more ranges have begun than ended
  pub flags : All (λ p. (n : ℤ) → IsTrue (in_range p.0 n) → p.1 ≡ not (nat_eq (begun + begun_at n cuts) (ended_at n cuts))) pieces
