-- Overlaps by the spots of patterns.
use Rattle.std.specs.Prelude.{◌≡◌, ◌<◌, ℕ, ℤ, Bool, List, Some, slice_get}
use Rattle.std.specs.List.{Contains}
use Rattle.match_model.specs.Values.{MValue}
use Rattle.match_model.specs.Overlaps.{MeetAt}
use Rattle.match_model.specs.ArenaPatterns.{MDeArm}
use Rattle.pattern_lints.specs.Along.{MeetTogether}
use Rattle.pattern_lints.specs.Spots.{Spot, spots_in}

-- two spots of the arms, the one at the smaller offset first, whose ranges have one common number, and some value that is
-- matched by both patterns along their paths, at one position
pub record SpotsMeet {T : Type 0} (IsValue : T → Bool → MValue → Type 0) (t : T) (sure : Bool) (arms : List (MDeArm T)) (first second : ℕ) (x : ℤ) : Type 0 where
  pub first_index : ℕ
  pub second_index : ℕ
  pub first_arm : MDeArm T
  pub second_arm : MDeArm T
  pub first_spot : Spot
  pub second_spot : Spot
  pub first_there : slice_get arms first_index ≡ Some first_arm
  pub second_there : slice_get arms second_index ≡ Some second_arm
  pub first_inside : Contains (spots_in first_arm.pat) first_spot
  pub second_inside : Contains (spots_in second_arm.pat) second_spot
  pub first_at : first_spot.at ≡ first
  pub second_at : second_spot.at ≡ second
  pub ordered : first < second
  pub meet : MeetAt first_spot.range second_spot.range x
  pub together : MeetTogether IsValue t sure first_arm.pat first_spot.path second_arm.pat second_spot.path
