-- The names that a well-typed head binds by itself hold parts that are there.
use Rattle.std.proofs.Common.{◌≡◌, ℕ, ◌+◌, Bool, true, ◌||◌, List, [], ◌∷◌, map, length, nat_eq, nat_le, Some, is_some, refl, sym, ap, ◌∙◌, subst}
use Rattle.std.specs.List.{list_all}
use Rattle.match_model.specs.Values.{MValue, Row, values_list}
use Rattle.match_model.specs.Constructors.{MCtor, LongerShape, FixedShape, RowCtor, SingleCtor, PointCtor, LaterCtor, OtherTextCtor, WildCtor, OrCtor, VariantCtor, FlagCtor, NumbersCtor, TextCtor, builds}
use Rattle.match_model.specs.Ways.{bind_into}
use Rattle.match_model.specs.Matching.{middle_of}
use Rattle.match_model.specs.ArenaPatterns.{MPart, WholePart, MiddlePart, MBound}
use Rattle.match_model.specs.ArenaWays.{bound_part}
use Rattle.match_model.specs.Places.{MStep, MiddleStep, part_at, step_into, some_if}
use Rattle.match_model.specs.Trees.{bindings_in, places_are}
use Rattle.match_model.specs.Rows.{is_wild_ctor}
use Rattle.match_model.specs.Matrices.{bind_at}
use Rattle.match_model.specs.WellTyped.{part_is_of}
use Rattle.match_model.proofs.Basics.{both, and_true, untrue, nat_equal}
use Rattle.keyed_rows.proofs.StepSame.{bound_into, bound}
use Rattle.keyed_rows.proofs.Expanding.{bound_of}
use Rattle.keyed_steps.proofs.Opening.{part-then}

-- a name of the middle stands on a row with a rest, which has it
middle-there : (k : MCtor) (g e : ℕ) (u : MValue) → part_is_of k (MiddlePart g e) ≡ true →
    (is_wild_ctor k || builds [] k u) ≡ true → step_into (MiddleStep g e) u ≡ Some (bound_part (MiddlePart g e) u)
middle-there (RowCtor (LongerShape f b)) g e (Row items) h t =
    let s = both (nat_eq f g) (nat_eq b e) h in
    let p : f ≡ g = nat_equal f g s.0 in
    let q : b ≡ e = nat_equal b e s.1 in
    let few : nat_le (g + e) (length (values_list items)) ≡ true = subst
    (λ x. nat_le (x + e) (length (values_list items)) ≡ true) p
    (subst (λ y. nat_le (f + y) (length (values_list items)) ≡ true) q t) in
    ap (λ x. some_if x (middle_of g e (values_list items))) few
middle-there (RowCtor (LongerShape f b)) g e _ h t = untrue t
middle-there (RowCtor (FixedShape n)) g e u h t = untrue h
middle-there SingleCtor g e u h t = untrue h
middle-there PointCtor g e u h t = untrue h
middle-there LaterCtor g e u h t = untrue h
middle-there OtherTextCtor g e u h t = untrue h
middle-there WildCtor g e u h t = untrue h
middle-there OrCtor g e u h t = untrue h
middle-there (VariantCtor i) g e u h t = untrue h
middle-there (FlagCtor i) g e u h t = untrue h
middle-there (NumbersCtor i) g e u h t = untrue h
middle-there (TextCtor i) g e u h t = untrue h

module _ (place : List MStep) (v u : MValue) (here : part_at place v ≡ Some u) (k : MCtor)
    (built : (is_wild_ctor k || builds [] k u) ≡ true) where
  abbrev Own : MBound → Bool
  Own b = part_is_of k b.part

  one-there : (b : MBound) → Own b ≡ true → part_at (bind_at place b).place v ≡ Some (bound_part b.part u)
  one-there b h = go b.part refl h
    where
      go : (p : MPart) → b.part ≡ p → part_is_of k p ≡ true → part_at (bind_at place b).place v ≡ Some
          (bound_part b.part u)
      go WholePart q t =
          subst (λ (x : MPart). part_at (bind_at place (record b { part = x })).place v ≡ Some (bound_part x u))
          (sym q) here
      go (MiddlePart g e) q t =
          subst (λ (x : MPart). part_at (bind_at place (record b { part = x })).place v ≡ Some (bound_part x u))
          (sym q) (part-then place (MiddleStep g e) v u here ∙ middle-there k g e u t built)

  -- they hold what their places hold
  pub own-bound : (bs : List MBound) → list_all (λ b. part_is_of k b.part) bs ≡ true → bound_of u bs ≡ bindings_in
      v (map (bind_at place) bs)
  own-bound [] h = refl
  own-bound (b ∷ bs) h =
      let s = both (Own b) (list_all (λ b. part_is_of k b.part) bs) h in
      ap (bind_into (record { name = b.name; mode = b.mode; value = bound_part b.part u })) (own-bound bs s.1)
      ∙ (ap (λ o. bound_into v (bind_at place b) o (bindings_in v (map (bind_at place) bs))) (sym (one-there b s.0))
      ∙ sym (bound v (bind_at place b) (map (bind_at place) bs)))

  -- and their places are there
  pub own-places : (bs : List MBound) → list_all (λ b. part_is_of k b.part) bs ≡ true →
      places_are v (map (bind_at place) bs) ≡ true
  own-places [] h = refl
  own-places (b ∷ bs) h =
      let s = both (Own b) (list_all (λ b. part_is_of k b.part) bs) h in
      and_true _ _ (ap is_some (one-there b s.0)) (own-places bs s.1)
