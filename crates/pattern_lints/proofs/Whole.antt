-- What the search for ranges and pairs has found are the overlaps of the match.
use Rattle.std.proofs.Common.{◌≡◌, ◌≢◌, ◌<◌, ◌⊎◌, inl, inr, ℕ, ℤ, Bool, true, false, List, [], slice_get, Some, refl, sym, ap, subst, ◌∙◌, arith, nat_lt, if◌then◌else◌}
use Rattle.std.specs.List.{Contains}
use Rattle.std.proofs.lemmas.Bool.Decides.{nat_tests}
use Rattle.match_model.specs.Values.{MValue}
use Rattle.match_model.specs.Overlaps.{MeetAt, MOverlap, IsOverlapList}
use Rattle.match_model.specs.ArenaPatterns.{MDePat, MDeArm, MDeMatch}
use Rattle.match_model.specs.ArenaWays.{match_arms, InMatchDomain}
use Rattle.pattern_lints.specs.Along.{MeetTogether}
use Rattle.pattern_lints.specs.Spots.{spots_in}
use Rattle.pattern_lints.specs.Finding.{RangeView, IsPlace, AreFoundIn}
use Rattle.pattern_lints.specs.Pairs.{SpotsMeet}
use Rattle.pattern_lints.specs.Pairing.{Adds, IsInArm, pair_at, IsPairIn}
use Rattle.pattern_lints.specs.Views.{IsInOrder}
use Rattle.pattern_lints.proofs.Noting.{one-place}
use Rattle.pattern_lints.proofs.SpotLaws.{nothing-in}
use Rattle.pattern_lints.proofs.EndList.{below-length}
use Rattle.pattern_lints.proofs.Middle.{overlaps-are-spots, same-steps}

-- what was found is in its arm
pub in-arm : {T : Type 0} (arms : List (MDeArm T)) (fs : List RangeView) (f : RangeView) → AreFoundIn arms fs → Contains fs f → IsInArm arms f
in-arm arms fs f h c =
    let e = h.1.each f c in
    let s = e.1.2 in
    record { arm = e.1.0; there = e.1.1; spot = s.0; inside = s.1; path_is = s.2.path_is; at_is = s.2.at_is; range_is = s.2.range_is }

-- both the other way round
pub turned : {T : Type 0} (IsValue : T → Bool → MValue → Type 0) (t : T) (sure : Bool) (p q : MDePat T) (path other : List ℕ) → MeetTogether IsValue t sure p path q other →
    MeetTogether IsValue t sure q other p path
turned IsValue t sure p q path other h = record {
  value = h.value;
  is = h.is;
  position = h.position;
  first_at = h.second_at;
  second_at = h.first_at;
  first_range = h.second_range;
  second_range = h.first_range;
  number = h.number;
  first = h.second;
  second = h.first;
  is_number = h.is_number;
  meet = elim h.meet [ inl m ↦ inr m | inr m ↦ inl m ];
}

-- the pair with the smaller offset first
pub lesser : (a b : ℕ) (x : ℤ) → a < b → pair_at a b x ≡ record { first = a; second = b; number = x }
lesser a b x l =
    let test : nat_lt a b ≡ true = grind (arith, nat_tests) in
    ap (λ t. if t then record { first = a; second = b; number = x } else record { first = b; second = a; number = x }) test

pub greater : (a b : ℕ) (x : ℤ) → b < a → pair_at a b x ≡ record { first = b; second = a; number = x }
greater a b x l =
    let test : nat_lt a b ≡ false = grind (arith, nat_tests) in
    ap (λ t. if t then record { first = a; second = b; number = x } else record { first = b; second = a; number = x }) test

-- two ranges in their arms that have a common number, as spots
as-spots : {T : Type 0} (IsValue : T → Bool → MValue → Type 0) (m : MDeMatch T) (f g : RangeView) (x : ℤ) (a b : MDeArm T) → IsInArm m.arms f → IsInArm m.arms g →
    slice_get m.arms f.arm ≡ Some a → slice_get m.arms g.arm ≡ Some b → f.at < g.at → MeetAt f.range g.range x →
    MeetTogether IsValue m.type m.sure a.pat f.path b.pat g.path → SpotsMeet IsValue m.type m.sure m.arms f.at g.at x
as-spots {T} IsValue m f g x a b h k ha hb l meet together =
    let one : Some h.arm ≡ Some a = sym h.there ∙ ha in
    let first : h.arm ≡ a = cc in
    let two : Some k.arm ≡ Some b = sym k.there ∙ hb in
    let second : k.arm ≡ b = cc in
    record {
      first_index = f.arm;
      second_index = g.arm;
      first_arm = a;
      second_arm = b;
      first_spot = h.spot;
      second_spot = k.spot;
      first_there = ha;
      second_there = hb;
      first_inside = subst (λ (y : MDeArm T). Contains (spots_in y.pat) h.spot) first h.inside;
      second_inside = subst (λ (y : MDeArm T). Contains (spots_in y.pat) k.spot) second k.inside;
      first_at = sym h.at_is;
      second_at = sym k.at_is;
      ordered = l;
      meet = subst (λ r. MeetAt r k.spot.range x) h.range_is (subst (λ r. MeetAt f.range r x) k.range_is meet);
      together = subst (λ path. MeetTogether IsValue m.type m.sure a.pat path b.pat k.spot.path) h.path_is
          (subst (λ path. MeetTogether IsValue m.type m.sure a.pat f.path b.pat path) k.path_is together);
    }

pub split : (a b : ℕ) → a ≢ b → (a < b) ⊎ (b < a)
split a b n = go (nat_lt a b) refl
  where
    other : (a b : ℕ) → a ≢ b → nat_lt a b ≡ false → b < a
    other a b n e = grind (arith, nat_tests)

    less : (a b : ℕ) → nat_lt a b ≡ true → a < b
    less a b e = grind (arith, nat_tests)

    go : (t : Bool) → nat_lt a b ≡ t → (a < b) ⊎ (b < a)
    go true e = inl (less a b e)
    go false e = inr (other a b n e)

-- a pair of ranges that were found is an overlap of spots
pair-spots : {T : Type 0} (IsValue : T → Bool → MValue → Type 0) (m : MDeMatch T) (fs : List RangeView) (o : MOverlap) → AreFoundIn m.arms fs → IsPairIn IsValue m fs o →
    SpotsMeet IsValue m.type m.sure m.arms o.first o.second o.number
pair-spots {T} IsValue m fs o h p =
    let f = p.0 in
    let q = p.2 in
    let g = q.other in
    let x = q.number in
    let r = q.pair in
    let a = in-arm m.arms fs f h p.1 in
    let b = in-arm m.arms fs g h q.there in
    let Goal : MOverlap → Type 0 = λ z. SpotsMeet IsValue m.type m.sure m.arms z.first z.second z.number in
    elim (split f.at g.at r.differ) [
      | inl l ↦
          subst Goal (sym (r.is ∙ lesser f.at g.at x l)) (as-spots IsValue m f g x r.first_arm r.second_arm a b r.first_there r.second_there l (inl q.touch) r.together)
      | inr l ↦
          subst Goal (sym (r.is ∙ greater f.at g.at x l))
          (as-spots IsValue m g f x r.second_arm r.first_arm b a r.second_there r.first_there l (inr q.touch)
          (turned IsValue m.type m.sure r.first_arm.pat r.second_arm.pat f.path g.path r.together))
    ]

-- an overlap of spots is a pair of ranges that were found
spots-pair : {T : Type 0} (IsValue : T → Bool → MValue → Type 0) (m : MDeMatch T) (fs : List RangeView) (o : MOverlap) → AreFoundIn m.arms fs →
    SpotsMeet IsValue m.type m.sure m.arms o.first o.second o.number → IsPairIn IsValue m fs o
spots-pair {T} IsValue m fs o (table, h) s =
    let first = h.all s.first_index s.first_arm s.first_spot (below-length m.arms s.first_index s.first_arm s.first_there) s.first_there s.first_inside in
    let second = h.all s.second_index s.second_arm s.second_spot (below-length m.arms s.second_index s.second_arm s.second_there) s.second_there s.second_inside in
    let f = first.0 in
    let g = second.0 in
    let place : g.place ≡ f.place =
    sym (one-place table 0 f.place g.place s.second_spot.steps
    (subst (λ steps. IsPlace table 0 steps f.place) (same-steps IsValue m.type m.sure m.arms o.first o.second o.number s) first.2.place_is) second.2.place_is) in
    let first_there : slice_get m.arms f.arm ≡ Some s.first_arm = ap (slice_get m.arms) first.2.arm_is ∙ s.first_there in
    let second_there : slice_get m.arms g.arm ≡ Some s.second_arm = ap (slice_get m.arms) second.2.arm_is ∙ s.second_there in
    let at-first : f.at ≡ o.first = first.2.at_is ∙ s.first_at in
    let at-second : g.at ≡ o.second = second.2.at_is ∙ s.second_at in
    let less : f.at < g.at = subst (λ n. n < g.at) (sym at-first) (subst (λ n. o.first < n) (sym at-second) s.ordered) in
    let together : MeetTogether IsValue m.type m.sure s.first_arm.pat f.path s.second_arm.pat g.path =
    subst (λ path. MeetTogether IsValue m.type m.sure s.first_arm.pat path s.second_arm.pat g.path) (sym first.2.path_is)
    (subst (λ path. MeetTogether IsValue m.type m.sure s.first_arm.pat s.first_spot.path s.second_arm.pat path) (sym second.2.path_is) s.together) in
    let meet : MeetAt f.range g.range o.number =
    subst (λ r. MeetAt r g.range o.number) (sym first.2.range_is) (subst (λ r. MeetAt s.first_spot.range r o.number) (sym second.2.range_is) s.meet) in
    let whole : o ≡ record { first = f.at; second = g.at; number = o.number } =
    ap (λ n. record { first = n; second = o.second; number = o.number }) (sym at-first) ∙ ap (λ n. record { first = f.at; second = n; number = o.number }) (sym at-second) in
    elim meet [
      | inl t ↦ (
        f,
        first.1,
        record {
          other = g;
          number = o.number;
          there = second.1;
          place = place;
          touch = t;
          pair = record {
            first_arm = s.first_arm;
            second_arm = s.second_arm;
            first_there = first_there;
            second_there = second_there;
            differ = λ e. absurd (omega (arith, e, less));
            together = together;
            is = whole ∙ sym (lesser f.at g.at o.number less);
          };
        },
      )
      | inr t ↦ (
        g,
        second.1,
        record {
          other = f;
          number = o.number;
          there = first.1;
          place = sym place;
          touch = t;
          pair = record {
            first_arm = s.second_arm;
            second_arm = s.first_arm;
            first_there = second_there;
            second_there = first_there;
            differ = λ e. absurd (omega (arith, e, less));
            together = turned IsValue m.type m.sure s.first_arm.pat s.second_arm.pat f.path g.path together;
            is = whole ∙ sym (greater g.at f.at o.number less);
          };
        },
      )
    ]

-- the pairs that were found, in order, are the list of overlaps
pub whole-list : {T : Type 0} (IsValue : T → Bool → MValue → Type 0) (m : MDeMatch T) (fs : List RangeView) (all list : List MOverlap) → AreFoundIn m.arms fs →
    Adds (IsPairIn IsValue m fs) [] all → IsInOrder all list → IsOverlapList (InMatchDomain IsValue m) (match_arms m) list
whole-list IsValue m fs all list h adds order = record {
  each = λ o.
      let both = overlaps-are-spots IsValue m o.first o.second o.number in (
        λ c.
            both.1 (elim (adds.from o ((order.same o).0 c)) [
              | inl none ↦ absurd (nothing-in o none)
              | inr p ↦ pair-spots IsValue m fs o h p
            ]),
        λ v. (order.same o).1 (adds.all o (spots-pair IsValue m fs o h (both.0 v))),
      );
  ascending = order.ascending;
}
