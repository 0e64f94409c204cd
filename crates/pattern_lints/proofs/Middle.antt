-- Overlaps of a match are overlaps of spots.
use Rattle.std.proofs.Common.{◌≡◌, ◌<◌, inl, inr, ℕ, ℤ, Bool, true, false, ◌&&◌, List, [], ◌∷◌, map, slice_get, Option, None, Some, refl, sym, ap, subst, ◌∙◌, arith, int_le}
use Rattle.std.specs.Prelude.{IsTrue, ◌↔◌}
use Rattle.std.specs.List.{Contains}
use Rattle.std.proofs.lemmas.Int.{ints}
use Rattle.match_model.specs.Values.{MValue, Num, part_at_position}
use Rattle.match_model.specs.Numbers.{MRange, At, is_from, is_up_to, in_range}
use Rattle.match_model.specs.Ways.{Way, SpanMet}
use Rattle.match_model.specs.Select.{Try, tries_from}
use Rattle.match_model.specs.Constructors.{NumbersCtor, builds}
use Rattle.match_model.specs.Overlaps.{MeetAt, Overlaps}
use Rattle.match_model.specs.ArenaPatterns.{MDePat, ctor_of, MDeArm, MDeMatch}
use Rattle.match_model.specs.ArenaWays.{arena_ways, arena_arm, match_arms, InMatchDomain}
use Rattle.pattern_lints.specs.Along.{MeetsAlong}
use Rattle.pattern_lints.specs.Spots.{Spot, spots_in}
use Rattle.pattern_lints.specs.Pairs.{SpotsMeet}
use Rattle.pattern_lints.proofs.AlongWays.{met_along, along_met, along_ends, ends_are_one}
use Rattle.pattern_lints.proofs.Numbered.{part-there}
use Rattle.pattern_lints.proofs.SpotLaws.{spot-ends, spot-met, one-steps}
use Rattle.pattern_lints.proofs.OneSpan.{one-span}
use Rattle.pattern_lints.proofs.Tries.{try-is, way-tried}

-- ---- the number at the end of a path

-- what stands at the end of a path along which a value is met is in the range
record HasEnd (v : MValue) (position : List ℕ) (r : MRange) : Type 0 where
  end : MValue
  there : part_at_position position v ≡ Some end
  build : IsTrue (builds [] (NumbersCtor r) end)

end-of : {T : Type 0} (path : List ℕ) (p : MDePat T) (v : MValue) (position : List ℕ) (offset : ℕ) (r : MRange) → MeetsAlong p path v position offset r → HasEnd v position r
end-of [] p v position offset r m = record { end = v; there = ap (λ is. part_at_position is v) m.position_is; build = m.build }
end-of (i ∷ rest) p v position offset r (inl a) = end-of rest a.sub v position offset r a.below
end-of {T} (i ∷ rest) p v position offset r (inr m) =
    let h = end-of rest m.sub m.part.part m.inner offset r m.below in
    record {
      end = h.end;
      there = ap (λ is. part_at_position is v) m.position_is
          ∙ ap (λ (u : Option MValue). elim u [ None ↦ None | Some w ↦ part_at_position m.inner w ]) (part-there (ctor_of p) v m.parts i m.part m.built m.part_there)
          ∙ h.there;
      build = h.build;
    }

-- the number at the position is in the range
in-both : (v : MValue) (position : List ℕ) (r : MRange) (x : ℤ) → HasEnd v position r → part_at_position position v ≡ Some (Num x) → IsTrue (in_range r x)
in-both v position r x h e =
    let same : Some h.end ≡ Some (Num x) = sym h.there ∙ e in
    let is : h.end ≡ Num x = cc in
    subst (λ u. IsTrue (builds [] (NumbersCtor r) u)) is h.build

both : (a b : Bool) → IsTrue (a && b) → IsTrue a × IsTrue b
both true true h = (h, h)
both true false h = cc
both false b h = cc

low-end : (r : MRange) (x y : ℤ) → r.low ≡ At x → IsTrue (in_range r y) → IsTrue (int_le x y)
low-end r x y e h = subst (λ z. IsTrue (is_from z y)) e (both (is_from r.low y) (is_up_to r.high y) h).0

high-end : (r : MRange) (x y : ℤ) → r.high ≡ At x → IsTrue (in_range r y) → IsTrue (int_le y x)
high-end r x y e h = subst (λ z. IsTrue (is_up_to z y)) e (both (is_from r.low y) (is_up_to r.high y) h).1

between : (x y : ℤ) → IsTrue (int_le x y) → IsTrue (int_le y x) → y ≡ x
between x y g h = grind (arith, ints)

-- where two ranges meet in one number, both have no other one
one-number : (r s : MRange) (x y : ℤ) → MeetAt r s x → IsTrue (in_range r y) → IsTrue (in_range s y) → y ≡ x
one-number r s x y (inl m) a b = between x y (low-end s x y m.1 b) (high-end r x y m.0 a)
one-number r s x y (inr m) a b = between x y (low-end r x y m.1 a) (high-end s x y m.0 b)

-- ---- both ways

-- an overlap is one of spots
overlap-spots : {T : Type 0} (IsValue : T → Bool → MValue → Type 0) (m : MDeMatch T) (first second : ℕ) (x : ℤ) →
    Overlaps (InMatchDomain IsValue m) (match_arms m) first second x → SpotsMeet IsValue m.type m.sure m.arms first second x
overlap-spots IsValue m first second x o =
    let v = o.0 in
    let h = o.2 in
    let a = try-is 0 m.arms v h.first_index h.first_try h.first_there in
    let b = try-is 0 m.arms v h.second_index h.second_try h.second_there in
    let p = met_along a.arm.pat v h.first_try.way h.first_span a.way h.first_met in
    let q = met_along b.arm.pat v h.second_try.way h.second_span b.way h.second_met in
    let moved : MeetsAlong b.arm.pat q.0 v h.first_span.position h.second_span.at h.second_span.range =
    subst (λ is. MeetsAlong b.arm.pat q.0 v is h.second_span.at h.second_span.range) (sym h.same_position) q.1 in
    let s = spot-met a.arm.pat p.0 v h.first_span.position h.first_span.at h.first_span.range p.1 in
    let t = spot-met b.arm.pat q.0 v h.first_span.position h.second_span.at h.second_span.range moved in
    record {
      first_index = a.index;
      second_index = b.index;
      first_arm = a.arm;
      second_arm = b.arm;
      first_spot = s.spot;
      second_spot = t.spot;
      first_there = a.there;
      second_there = b.there;
      first_inside = s.inside;
      second_inside = t.inside;
      first_at = s.at_is ∙ h.first_at;
      second_at = t.at_is ∙ h.second_at;
      ordered = h.ordered;
      meet = subst (λ r. MeetAt r t.spot.range x) (sym s.range_is) (subst (λ r. MeetAt h.first_span.range r x) (sym t.range_is) h.meet);
      together = record {
        value = v;
        is = o.1;
        position = h.first_span.position;
        first_at = h.first_span.at;
        second_at = h.second_span.at;
        first_range = h.first_span.range;
        second_range = h.second_span.range;
        number = x;
        first = subst (λ path. MeetsAlong a.arm.pat path v h.first_span.position h.first_span.at h.first_span.range) (sym s.path_is) p.1;
        second = subst (λ path. MeetsAlong b.arm.pat path v h.first_span.position h.second_span.at h.second_span.range) (sym t.path_is) moved;
        is_number = h.is_number;
        meet = h.meet;
      };
    }

-- the trail of a spot along which a value is met: what is tried there, and the range that it meets
record IsTried {T : Type 0} (arms : List (MDeArm T)) (v : MValue) (position : List ℕ) (spot : Spot) : Type 0 where
  index : ℕ
  tried : Try
  there : slice_get (tries_from 0 (map arena_arm arms) v) index ≡ Some tried
  arm : MDeArm T
  way : Contains (arena_ways arm.pat v) tried.way
  met : Contains tried.way.spans (record { at = spot.at; position = position; range = spot.range })

spot-tried : {T : Type 0} (arms : List (MDeArm T)) (v : MValue) (position : List ℕ) (k : ℕ) (a : MDeArm T) (spot : Spot) → slice_get arms k ≡ Some a →
    MeetsAlong a.pat spot.path v position spot.at spot.range → IsTried arms v position spot
spot-tried arms v position k a spot e m =
    let s : SpanMet = record { at = spot.at; position = position; range = spot.range } in
    let w = along_met a.pat spot.path v s m in
    let f = way-tried 0 arms v k a w.0 e w.1 in
    record {
      index = f.0;
      tried = f.1;
      there = f.2;
      arm = a;
      way = subst (Contains (arena_ways a.pat v)) (sym f.3) w.1;
      met = subst (λ (x : Way). Contains x.spans s) (sym f.3) w.2;
    }

-- what is met along the path of a spot is the spot
spot-along-path : {T : Type 0} (p : MDePat T) (spot : Spot) (v : MValue) (position : List ℕ) (offset : ℕ) (r : MRange) → Contains (spots_in p) spot →
    MeetsAlong p spot.path v position offset r → MeetsAlong p spot.path v position spot.at spot.range
spot-along-path p spot v position offset r h m =
    let e = ends_are_one p spot.path offset spot.at r spot.range (along_ends p spot.path v position offset r m) (spot-ends p spot h) in
    subst (λ o. MeetsAlong p spot.path v position o spot.range) e.0 (subst (λ s. MeetsAlong p spot.path v position offset s) e.1 m)

at-differ : (s t : SpanMet) → s ≡ t → s.at < t.at → ⊥
at-differ s t e l = let same : s.at ≡ t.at = ap (λ (x : SpanMet). x.at) e in absurd (omega (arith, l, same))

-- spots that meet are reached by the same steps
pub same-steps : {T : Type 0} (IsValue : T → Bool → MValue → Type 0) (t : T) (sure : Bool) (arms : List (MDeArm T)) (first second : ℕ) (x : ℤ) →
    (h : SpotsMeet IsValue t sure arms first second x) → h.first_spot.steps ≡ h.second_spot.steps
same-steps IsValue t sure arms first second x h =
    let g = h.together in
    let a = spot-met h.first_arm.pat h.first_spot.path g.value g.position g.first_at g.first_range g.first in
    let b = spot-met h.second_arm.pat h.second_spot.path g.value g.position g.second_at g.second_range g.second in
    one-steps h.first_arm.pat h.first_spot a.spot h.first_inside a.inside (sym a.path_is) ∙ a.steps_are ∙ sym b.steps_are
    ∙ sym (one-steps h.second_arm.pat h.second_spot b.spot h.second_inside b.inside (sym b.path_is))

-- an overlap of spots is one
spots-overlap : {T : Type 0} (IsValue : T → Bool → MValue → Type 0) (m : MDeMatch T) (first second : ℕ) (x : ℤ) →
    SpotsMeet IsValue m.type m.sure m.arms first second x → Overlaps (InMatchDomain IsValue m) (match_arms m) first second x
spots-overlap IsValue m first second x h =
    let g = h.together in
    let v = g.value in
    let p = spot-along-path h.first_arm.pat h.first_spot v g.position g.first_at g.first_range h.first_inside g.first in
    let q = spot-along-path h.second_arm.pat h.second_spot v g.position g.second_at g.second_range h.second_inside g.second in
    let a = spot-tried m.arms v g.position h.first_index h.first_arm h.first_spot h.first_there p in
    let b = spot-tried m.arms v g.position h.second_index h.second_arm h.second_spot h.second_there q in
    let s : SpanMet = record { at = h.first_spot.at; position = g.position; range = h.first_spot.range } in
    let t : SpanMet = record { at = h.second_spot.at; position = g.position; range = h.second_spot.range } in
    let has : (r : MRange) → HasEnd v g.position r → IsTrue (in_range r g.number) = λ r e. in-both v g.position r g.number e g.is_number in
    let number : g.number ≡ x =
    one-number h.first_spot.range h.second_spot.range x g.number h.meet
    (has h.first_spot.range (end-of h.first_spot.path h.first_arm.pat v g.position h.first_spot.at h.first_spot.range p))
    (has h.second_spot.range (end-of h.second_spot.path h.second_arm.pat v g.position h.second_spot.at h.second_spot.range q)) in
    let less : h.first_spot.at < h.second_spot.at = subst (λ n. n < h.second_spot.at) (sym h.first_at) (subst (λ n. first < n) (sym h.second_at) h.ordered) in (
      v,
      g.is,
      record {
        first_index = a.index;
        second_index = b.index;
        first_try = a.tried;
        second_try = b.tried;
        first_span = s;
        second_span = t;
        different = λ e.
            let one : Some a.tried ≡ Some b.tried = sym a.there ∙ ap (slice_get (tries_from 0 (match_arms m) v)) e ∙ b.there in
            let same : a.tried ≡ b.tried = cc in
            at-differ s t (one-span a.arm.pat v a.tried.way a.way s t a.met (subst (λ (y : Try). Contains y.way.spans t) (sym same) b.met) refl) less;
        first_there = a.there;
        second_there = b.there;
        first_met = a.met;
        second_met = b.met;
        first_at = h.first_at;
        second_at = h.second_at;
        ordered = h.ordered;
        same_position = refl;
        is_number = g.is_number ∙ ap (λ n. Some (Num n)) number;
        meet = h.meet;
      },
    )

-- the overlaps of a match are those of its spots
pub overlaps-are-spots : {T : Type 0} (IsValue : T → Bool → MValue → Type 0) (m : MDeMatch T) (first second : ℕ) (x : ℤ) →
    Overlaps (InMatchDomain IsValue m) (match_arms m) first second x ↔ SpotsMeet IsValue m.type m.sure m.arms first second x
overlaps-are-spots IsValue m first second x = (overlap-spots IsValue m first second x, spots-overlap IsValue m first second x)
