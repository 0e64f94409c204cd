-- Pairs of ranges that were found and overlap.
use Rattle.std.specs.Prelude.{◌≡◌, ◌≢◌, ◌⊎◌, ℕ, ℤ, Bool, List, slice_get, Some, nat_lt, if◌then◌else◌}
use Rattle.std.specs.List.{Contains}
use Rattle.match_model.specs.Values.{MValue}
use Rattle.match_model.specs.Numbers.{At}
use Rattle.range_split.specs.Numbers.{num_value}
use Rattle.match_model.specs.Overlaps.{MOverlap}
use Rattle.match_model.specs.ArenaPatterns.{MDeArm, MDeMatch}
use Rattle.pattern_lints.specs.Along.{MeetTogether}
use Rattle.pattern_lints.specs.Spots.{Spot, spots_in}
use Rattle.pattern_lints.specs.Finding.{RangeView}
use Rattle.pattern_lints.specs.declared.ends.Side.{Side}
use Rattle.pattern_lints.specs.declared.ends.RangeEnd.{RangeEnd}
use Rattle.pattern_lints.specs.Ends.{Faces}

-- besides what the first list has, the second one has what passes the test, and nothing else
pub record Adds (P : MOverlap → Type 0) (old new : List MOverlap) : Type 0 where
  pub kept : (o : MOverlap) → Contains old o → Contains new o
  pub all : (o : MOverlap) → P o → Contains new o
  pub from : (o : MOverlap) → Contains new o → Contains old o ⊎ P o

-- the range that was found is a spot of its arm
pub record IsInArm {T : Type 0} (arms : List (MDeArm T)) (f : RangeView) : Type 0 where
  pub arm : MDeArm T
  pub there : slice_get arms f.arm ≡ Some arm
  pub spot : Spot
  pub inside : Contains (spots_in arm.pat) spot
  pub path_is : f.path ≡ spot.path
  pub at_is : f.at ≡ spot.at
  pub range_is : f.range ≡ spot.range

-- the first range ends where the second one begins, at the number
abbrev pub TouchesAt : RangeView → RangeView → ℤ → Type 0
TouchesAt f g x = (f.range.high ≡ At x) × (g.range.low ≡ At x)

-- an overlap of ranges at two offsets, the smaller one first
abbrev pub pair_at : (a b : ℕ) → ℤ → MOverlap
pair_at a b x = if nat_lt a b then record { first = a; second = b; number = x } else record { first = b; second = a; number = x }

-- the overlap is that of the two ranges, which stand at different offsets: some value is matched by both of their patterns
-- along their paths, at one position
pub record IsPair {T : Type 0} (IsValue : T → Bool → MValue → Type 0) (m : MDeMatch T) (f g : RangeView) (x : ℤ) (o : MOverlap) : Type 0 where
  pub first_arm : MDeArm T
  pub second_arm : MDeArm T
  pub first_there : slice_get m.arms f.arm ≡ Some first_arm
  pub second_there : slice_get m.arms g.arm ≡ Some second_arm
  pub differ : f.at ≢ g.at
  pub together : MeetTogether IsValue m.type m.sure first_arm.pat f.path second_arm.pat g.path
  pub is : o ≡ pair_at f.at g.at x

-- the overlap is that of the range with one that was found, which begins where it ends, at the same place
pub record IsPairOf {T : Type 0} (IsValue : T → Bool → MValue → Type 0) (m : MDeMatch T) (fs : List RangeView) (f : RangeView) (o : MOverlap) : Type 0 where
  pub other : RangeView
  pub number : ℤ
  pub there : Contains fs other
  pub place : other.place ≡ f.place
  pub touch : TouchesAt f other number
  pub pair : IsPair IsValue m f other number o

-- the overlap is that of two of the ranges that were found
abbrev pub IsPairIn : {T : Type 0} → (IsValue : T → Bool → MValue → Type 0) → MDeMatch T → List RangeView → MOverlap → Type 0
IsPairIn IsValue m fs o = (f : RangeView) × Contains fs f × IsPairOf IsValue m fs f o

-- the overlap is that of the ranges of the two ends
pub record IsPairAcross {T : Type 0} (IsValue : T → Bool → MValue → Type 0) (m : MDeMatch T) (fs : List RangeView) (e d : RangeEnd) (o : MOverlap) : Type 0 where
  pub first : RangeView
  pub second : RangeView
  pub first_there : slice_get fs e.index ≡ Some first
  pub second_there : slice_get fs d.index ≡ Some second
  pub pair : IsPair IsValue m first second (num_value e.number) o

-- the overlap is that of the end, which is on the side, with one of the ends of the other side that face it
abbrev pub IsPairFacing : {T : Type 0} → (IsValue : T → Bool → MValue → Type 0) → MDeMatch T → (fs : List RangeView) → Side → (others : List RangeEnd) → RangeEnd → MOverlap → Type 0
IsPairFacing IsValue m fs side others e o = (d : RangeEnd) × Contains others d × Faces side e d × IsPairAcross IsValue m fs e d o

-- the overlap is that of one of the ends, which are on the side, with one of the ends of the other side that face it
abbrev pub IsPairFrom : {T : Type 0} → (IsValue : T → Bool → MValue → Type 0) → MDeMatch T → (fs : List RangeView) → Side → (ends others : List RangeEnd) → MOverlap → Type 0
IsPairFrom IsValue m fs side ends others o = (e : RangeEnd) × Contains ends e × IsPairFacing IsValue m fs side others e o
