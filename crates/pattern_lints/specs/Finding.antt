-- What the search for ranges has found.
use Rattle.std.specs.Prelude.{⊤, ◌≡◌, ◌<◌, ◌≤◌, ℕ, suc, Bool, ◌&&◌, nat_eq, List, [], ◌∷◌, ◌++◌, map, length, take, slice_get, None, Some}
use Rattle.std.specs.List.{Contains, position_or_len}
use Rattle.match_model.specs.Numbers.{MRange}
use Rattle.match_model.specs.Constructors.{MCtor}
use Rattle.match_model.specs.ArenaPatterns.{MDeArm}
use Rattle.range_split.specs.Ranges.{plain_range}
use Rattle.pattern_lints.specs.declared.found.PlaceStep.{PlaceStep}
use Rattle.pattern_lints.specs.declared.found.FoundRange.{FoundRange}
use Rattle.pattern_lints.specs.declared.found.Finding.{Finding}
use Rattle.pattern_lints.specs.Spots.{PartStep, Spot, several_of, spots_in, steps_below}
use Rattle.pattern_arena.specs.declared.pattern.DePat.{DePat}
use Rattle.pattern_arena.specs.Trees.{placed_ctor, placed_subs}

-- a range that was found: its arm, the path to it, its offset, the range, and the number of its place
pub record RangeView : Type 0 where
  pub arm : ℕ
  pub path : List ℕ
  pub at : ℕ
  pub range : MRange
  pub place : ℕ

-- what was found, as the definitions have it
abbrev pub range_view : FoundRange → RangeView
range_view f = record { arm = f.arm; path = f.path.items; at = f.at; range = plain_range f.range; place = f.place }

-- all that was found
abbrev pub range_views : Finding → List RangeView
range_views s = map range_view s.found.items

-- the steps are the same
abbrev pub same_step : PlaceStep → PlaceStep → Bool
same_step s t = nat_eq s.above t.above && (nat_eq s.variant t.variant && nat_eq s.part t.part)

-- the number is that of the step in the table: one more than the first index at which it stands
pub record IsStep (table : List PlaceStep) (s : PlaceStep) (n : ℕ) : Type 0 where
  pub index : ℕ
  pub first : position_or_len (same_step s) table ≡ index
  pub there : index < length table
  pub number : n ≡ suc index

-- the steps lead from the place with the number `above` to the place with the number `n`
abbrev pub IsPlace : (table : List PlaceStep) → (above : ℕ) → List PartStep → (n : ℕ) → Type 0
IsPlace table above [] n = n ≡ above
IsPlace table above (s ∷ rest) n =
    (m : ℕ) × IsStep table (record { above = above; variant = s.variant; part = s.part }) m × IsPlace table m rest n

-- the table has grown, and nothing else has changed
pub record Grows (old new : Finding) : Type 0 where
  pub more : List PlaceStep
  pub table : new.places.keys ≡ old.places.keys ++ more
  pub found : new.found.items ≡ old.found.items
  pub arm : new.arm ≡ old.arm
  pub path : new.path.items ≡ old.path.items

-- the step has the number in the table, which may have grown
pub record Steps (old new : Finding) (s : PlaceStep) (n : ℕ) : Type 0 where
  pub grows : Grows old new
  pub is : IsStep new.places.keys s n

-- the place of the pattern with the number `i` below a constructor has the number `n`
pub record Opens (old new : Finding) (above : ℕ) (c : MCtor) (i n : ℕ) : Type 0 where
  pub grows : Grows old new
  pub leads : (table more : List PlaceStep) (steps : List PartStep) (m : ℕ) → table ≡ new.places.keys ++ more →
      IsPlace table n steps m → IsPlace table above (steps_below c i steps) m

-- the range that was found is the spot of a pattern that stands at the end of a path, and at a place
pub record IsNoted (table : List PlaceStep) (arm : ℕ) (path : List ℕ) (above : ℕ) (f : RangeView) (s : Spot) : Type 0 where
  pub arm_is : f.arm ≡ arm
  pub path_is : f.path ≡ path ++ s.path
  pub at_is : f.at ≡ s.at
  pub range_is : f.range ≡ s.range
  pub place_is : IsPlace table above s.steps f.place

-- what was found are these spots, one after the other
abbrev pub AreNoted : (table : List PlaceStep) → (arm : ℕ) → (path : List ℕ) → (above : ℕ) → List RangeView → List Spot → Type 0
AreNoted table arm path above [] [] = ⊤
AreNoted table arm path above [] (s ∷ spots) = ⊥
AreNoted table arm path above (f ∷ fs) [] = ⊥
AreNoted table arm path above (f ∷ fs) (s ∷ spots) = IsNoted table arm path above f s × AreNoted table arm path above fs spots

-- the spots of a pattern that stands at a place are found besides what was found before
pub record Notes (old new : Finding) (above : ℕ) (spots : List Spot) : Type 0 where
  pub more : List PlaceStep
  pub added : List RangeView
  pub arm : new.arm ≡ old.arm
  pub path : new.path.items ≡ old.path.items
  pub table : new.places.keys ≡ old.places.keys ++ more
  pub found : range_views new ≡ range_views old ++ added
  pub noted : AreNoted new.places.keys old.arm old.path.items above added spots

-- the second pattern is the only one below the first, which is no range of more than one number
pub record IsLone {T : Type 0} (p q : DePat T) : Type 0 where
  pub only : placed_subs p ≡ q ∷ []
  pub plain : several_of (placed_ctor p) ≡ None

-- the place of the first pattern below a constructor has the number `n`, and the path leads to it
pub record GoesIn (old new : Finding) (above : ℕ) (c : MCtor) (n : ℕ) : Type 0 where
  pub opened : Finding
  pub opens : Opens old opened above c 0 n
  pub table : new.places.keys ≡ opened.places.keys
  pub found : new.found.items ≡ opened.found.items
  pub arm : new.arm ≡ opened.arm
  pub path : new.path.items ≡ opened.path.items ++ 0 ∷ []

-- what is found of a pattern further in, with the spots `inner` and the place `at`, is found of one with the spots `spots`,
-- once the path to it is as long again as it was
pub record Enters (old mid : Finding) (above : ℕ) (spots : List Spot) (at : ℕ) (inner : List Spot) : Type 0 where
  pub longer : length old.path.items ≤ length mid.path.items
  pub found : (new last : Finding) → Notes mid new at inner → last.places.keys ≡ new.places.keys →
      last.found.items ≡ new.found.items → last.arm ≡ new.arm →
      last.path.items ≡ take (length old.path.items) new.path.items → Notes old last above spots

-- of the arms before the number `j` all spots are found, and nothing else is
pub record AreFound {T : Type 0} (arms : List (MDeArm T)) (j : ℕ) (table : List PlaceStep) (fs : List RangeView) : Type 0 where
  pub each : (f : RangeView) → Contains fs f →
      (f.arm < j) × ((a : MDeArm T) × (slice_get arms f.arm ≡ Some a) × ((s : Spot) × Contains (spots_in a.pat) s × IsNoted table f.arm [] 0 f s))
  pub all : (i : ℕ) (a : MDeArm T) (s : Spot) → i < j → slice_get arms i ≡ Some a → Contains (spots_in a.pat) s →
      (f : RangeView) × Contains fs f × IsNoted table i [] 0 f s

-- of the arms all spots are found, and nothing else is, by some table
abbrev pub AreFoundIn : {T : Type 0} → List (MDeArm T) → List RangeView → Type 0
AreFoundIn arms fs = (table : List PlaceStep) × AreFound arms (length arms) table fs
