-- Ends of ranges in order.
use Rattle.std.specs.Prelude.{◌≡◌, ◌<◌, ◌≤◌, ℕ, ℤ, Bool, true, false, not, ◌&&◌, ◌||◌, List, [], length, slice_get, None, Some, IsTrue, nat_lt, nat_eq, int_le}
use Rattle.std.specs.List.{Contains, AllPairs}
use Rattle.std.specs.List.Sorted.{IsPartitionPoint}
use Rattle.match_model.specs.Values.{MValue}
use Rattle.match_model.specs.Numbers.{MEnd, MRange, At}
use Rattle.match_model.specs.ArenaPatterns.{MDePat, MDeArm}
use Rattle.range_split.specs.Numbers.{num_value}
use Rattle.pattern_lints.specs.declared.mixing.Columns.{Columns}
use Rattle.pattern_lints.specs.declared.ends.Side.{Side}
use Rattle.pattern_lints.specs.declared.ends.Side.TheVariants.{Low, High}
use Rattle.pattern_lints.specs.declared.ends.RangeEnd.{RangeEnd}
use Rattle.pattern_lints.specs.Along.{MeetsAlong}
use Rattle.pattern_lints.specs.Beside.{number_beside, held_of}
use Rattle.pattern_lints.specs.Finding.{RangeView}
use Rattle.pattern_lints.specs.Mixing.{number_of}

-- the end of the range on the side
abbrev pub end_at : Side → MRange → MEnd
end_at Low r = r.low
end_at High r = r.high

-- the other side
abbrev pub across : Side → Side
across Low = High
across High = Low

-- the number in the columns of the place; where the place has none, the value's own
abbrev pub number_in : List Columns → (place : ℕ) → (position : List ℕ) → MValue → ℤ
number_in columns place position v = elim (slice_get columns place) [
  | None ↦ number_beside 0 [] position v
  | Some c ↦ number_of c position v
]

-- the end is that of the range with its index, at its place
pub record IsEnd (side : Side) (fs : List RangeView) (e : RangeEnd) : Type 0 where
  pub range : RangeView
  pub there : slice_get fs e.index ≡ Some range
  pub place : range.place ≡ e.place
  pub end : end_at side range.range ≡ At (num_value e.number)

-- the list has the ends of the first `n` ranges that are numbers, and nothing else
pub record AreEndsTo (side : Side) (fs : List RangeView) (n : ℕ) (ends : List RangeEnd) : Type 0 where
  pub each : (e : RangeEnd) → Contains ends e → IsEnd side fs e
  pub all : (i : ℕ) (f : RangeView) (x : ℤ) → i < n → slice_get fs i ≡ Some f → end_at side f.range ≡ At x → (e : RangeEnd) × Contains ends e × (e.index ≡ i)

-- the list has the ends of the ranges that are numbers, and nothing else
abbrev pub AreEnds : Side → List RangeView → List RangeEnd → Type 0
AreEnds side fs ends = AreEndsTo side fs (length fs) ends

-- in each value that is matched along the path of the range, its number in the columns of the place is between the two
abbrev pub IsBetween : {T : Type 0} → List Columns → MDePat T → RangeView → (from to : ℤ) → Type 0
IsBetween columns p f from to =
    (v : MValue) (position : List ℕ) (at : ℕ) (s : MRange) → MeetsAlong p f.path v position at s →
    IsTrue (int_le from (held_of (number_in columns f.place position v))) × IsTrue (int_le (held_of (number_in columns f.place position v)) to)

-- where a place has columns, this is known
abbrev pub KnowsColumns : List Columns → Type 0 → Type 0
KnowsColumns columns P = (place : ℕ) (c : Columns) → slice_get columns place ≡ Some c → P

-- the end's two numbers bound the number in the columns
abbrev pub IsBounded : {T : Type 0} → List (MDeArm T) → List Columns → List RangeView → RangeEnd → Type 0
IsBounded {T} arms columns fs e =
    (f : RangeView) (a : MDeArm T) → slice_get fs e.index ≡ Some f → slice_get arms f.arm ≡ Some a →
    IsBetween columns a.pat f (num_value e.from) (num_value e.to)

-- so do those of each end of the list
abbrev pub AreBounded : {T : Type 0} → List (MDeArm T) → List Columns → List RangeView → List RangeEnd → Type 0
AreBounded arms columns fs ends = (e : RangeEnd) → Contains ends e → IsBounded arms columns fs e

-- some columns have their number between the two of each end, of both lists
abbrev pub AreApart : {T : Type 0} → List (MDeArm T) → List RangeView → (highs lows : List RangeEnd) → Type 0
AreApart arms fs highs lows = (columns : List Columns) × AreBounded arms columns fs highs × AreBounded arms columns fs lows

-- by places, and where they are one by what follows
abbrev pub by_place : (p q : ℕ) → (rest : Bool) → Bool
by_place p q rest = nat_lt p q || (nat_eq p q && rest)

-- by numbers, and where they are one by what follows
abbrev pub by_number : (x y : ℤ) → (rest : Bool) → Bool
by_number x y rest = not (int_le y x) || (int_le x y && rest)

-- below the bound, or at it where that counts
abbrev pub is_under : (equal : Bool) → (x bound : ℤ) → Bool
is_under true x bound = int_le x bound
is_under false x bound = not (int_le bound x)

-- the first end stands before the second one, or at the same place, number and bound
abbrev pub comes_before : RangeEnd → RangeEnd → Bool
comes_before d e = by_place d.place e.place (by_number (num_value d.number) (num_value e.number) (is_under true (num_value d.from) (num_value e.from)))

-- the ends ascend
abbrev pub Rise : List RangeEnd → Type 0
Rise ends = AllPairs (λ d e. IsTrue (comes_before d e)) ends

-- the end stands before the number at the place, or there below the bound
abbrev pub is_before : (equal : Bool) → (place : ℕ) → (x bound : ℤ) → RangeEnd → Bool
is_before equal place x bound e = by_place e.place place (by_number (num_value e.number) x (is_under equal (num_value e.from) bound))

-- so many of the ends pass the test: the first ones, and no others
pub record IsCount (test : RangeEnd → Bool) (ends : List RangeEnd) (n : ℕ) : Type 0 where
  pub bound : n ≤ length ends
  pub point : IsPartitionPoint (λ e. test e ≡ true) (λ e. test e ≡ false) ends n

-- whether the least numbers of two ends may be one: of two ends that face each other, one looks for the other
abbrev pub is_high : Side → Bool
is_high Low = false
is_high High = true

-- the second end, which is of the other side, is the same number at the same place, and what stands beside it begins inside
-- what stands beside the first one
pub record Faces (side : Side) (e d : RangeEnd) : Type 0 where
  pub place : d.place ≡ e.place
  pub number : num_value d.number ≡ num_value e.number
  pub above : is_under (is_high side) (num_value e.from) (num_value d.from) ≡ true
  pub within : int_le (num_value d.from) (num_value e.to) ≡ true

-- the ends that face the end have the indices from `first` on and before `end`
pub record IsRun (side : Side) (e : RangeEnd) (ends : List RangeEnd) (first end : ℕ) : Type 0 where
  pub within : end ≤ length ends
  pub inside : (i : ℕ) (d : RangeEnd) → first ≤ i → i < end → slice_get ends i ≡ Some d → Faces side e d
  pub every : (i : ℕ) (d : RangeEnd) → slice_get ends i ≡ Some d → Faces side e d → (first ≤ i) × (i < end)
