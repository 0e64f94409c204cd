-- Spots are the ends of paths, and a value that is met along a path tells the steps to its spot.
use Rattle.std.proofs.Common.{◌≡◌, ◌<◌, ◌⊎◌, inl, inr, ℕ, zero, suc, ◌+◌, Bool, true, false, List, [], ◌∷◌, map, length, slice_get, Option, None, Some, refl, sym, ap, subst, ◌∙◌, arith, zero-add, if◌then◌else◌}
use Rattle.std.specs.List.{Contains}
use Rattle.std.proofs.lemmas.Bool.Decides.{nat_tests}
use Rattle.std.proofs.lemmas.List.Elements.{Contains-append_left, Contains-append_right, Contains-append_cases}
use Rattle.match_model.specs.Values.{MValue, Node, Row, Point, Later, Flag, Num, Text, parts_of}
use Rattle.match_model.specs.Numbers.{MRange, has_one_number}
use Rattle.match_model.specs.Constructors.{MCtor, SingleCtor, PointCtor, LaterCtor, OtherTextCtor, WildCtor, FlagCtor, TextCtor, VariantCtor, NumbersCtor, RowCtor, OrCtor, builds, parts_met}
use Rattle.match_model.specs.ArenaPatterns.{MDePat, de_pat, MDePats, no_de_pats, more_de_pats, de_pats_list, ctor_of}
use Rattle.match_model.specs.ArenaWays.{NumberedPart, numbered_from}
use Rattle.pattern_lints.specs.Along.{RangeMet, PartAlong, MeetsAlong, EndsAt}
use Rattle.pattern_lints.specs.Spots.{PartStep, Spot, step_in, steps_below, spot_below, several_of, own_spot, spots_in, spots_below}
use Rattle.pattern_lints.proofs.Numbered.{some-true, part-there}

-- ---- lists

pub nothing-in : {X : Type 0} (x : X) → Contains [] x → ⊥
nothing-in x h = absurd (omega (arith, h.1))

pub in-one : {X : Type 0} (y x : X) → Contains (y ∷ []) x → y ≡ x
in-one y x (zero, l, e) = e
in-one y x (suc k, l, e) = absurd (omega (arith, l))

pub first-in : {X : Type 0} (x : X) (xs : List X) → Contains (x ∷ xs) x
first-in x xs = (zero, omega arith, refl)

pub later-in : {X : Type 0} (y : X) (xs : List X) (x : X) → Contains xs x → Contains (y ∷ xs) x
later-in y xs x (k, l, e) = (suc k, omega (arith, l), e)

pub first-or-later : {X : Type 0} (y : X) (xs : List X) (x : X) → Contains (y ∷ xs) x → (y ≡ x) ⊎ Contains xs x
first-or-later y xs x (zero, l, e) = inl e
first-or-later y xs x (suc k, l, e) = inr (k, omega (arith, l), e)

pub in-map : {X Y : Type 0} (f : X → Y) (xs : List X) (x : X) → Contains xs x → Contains (map f xs) (f x)
in-map f [] x h = absurd (nothing-in x h)
in-map f (y ∷ ys) x h = elim (first-or-later y ys x h) [
  | inl e ↦ subst (λ z. Contains (f y ∷ map f ys) (f z)) e (first-in (f y) (map f ys))
  | inr r ↦ later-in (f y) (map f ys) (f x) (in-map f ys x r)
]

pub from-map : {X Y : Type 0} (f : X → Y) (xs : List X) (y : Y) → Contains (map f xs) y → (x : X) × Contains xs x × (f x ≡ y)
from-map f [] y h = absurd (nothing-in y h)
from-map f (x ∷ xs) y h = elim (first-or-later (f x) (map f xs) y h) [
  | inl e ↦ (x, first-in x xs, e)
  | inr r ↦ let found = from-map f xs y r in (found.0, later-in x xs found.0 found.1, found.2)
]

-- ---- spots are ends

own-is : (at : ℕ) (c : MCtor) (s : Spot) → Contains (own_spot at (several_of c)) s →
    (s.path ≡ []) × (s.steps ≡ []) × (s.at ≡ at) × (c ≡ NumbersCtor s.range) × (has_one_number s.range ≡ false)
own-is at (NumbersCtor r) s h = go (has_one_number r) refl h
  where
    go : (b : Bool) → has_one_number r ≡ b → Contains (own_spot at (if b then None else Some r)) s →
        (s.path ≡ []) × (s.steps ≡ []) × (s.at ≡ at) × (NumbersCtor r ≡ NumbersCtor s.range) × (has_one_number s.range ≡ false)
    go true e h = absurd (nothing-in s h)
    go false e h =
        let is : record { path = []; steps = []; at = at; range = r } ≡ s = in-one (record { path = []; steps = []; at = at; range = r }) s h in
        subst (λ (t : Spot). (t.path ≡ []) × (t.steps ≡ []) × (t.at ≡ at) × (NumbersCtor r ≡ NumbersCtor t.range) × (has_one_number t.range ≡ false)) is (refl, refl, refl, refl, e)
own-is at _ s h = absurd (nothing-in s h)

-- a spot below: of which pattern
record IsBelow {T : Type 0} (c : MCtor) (n : ℕ) (ps : MDePats T) (s : Spot) : Type 0 where
  index : ℕ
  sub : MDePat T
  there : slice_get (de_pats_list ps) index ≡ Some sub
  spot : Spot
  inside : Contains (spots_in sub) spot
  is : spot_below c (n + index) spot ≡ s

below-is : {T : Type 0} (c : MCtor) (n : ℕ) (ps : MDePats T) (s : Spot) → Contains (spots_below c n ps) s → IsBelow c n ps s
below-is c n no_de_pats s h = absurd (nothing-in s h)
below-is {T} c n (more_de_pats p ps) s h = elim (Contains-append_cases (map (spot_below c n) (spots_in p)) (spots_below c (suc n) ps) s h) [
  | inl here ↦
      let f = from-map (spot_below c n) (spots_in p) s here in
      let plus : n + 0 ≡ n = omega arith in
      record { index = 0; sub = p; there = refl; spot = f.0; inside = f.1; is = ap (λ k. spot_below c k f.0) plus ∙ f.2 }
  | inr later ↦
      let b = below-is c (suc n) ps s later in
      let next : n + suc b.index ≡ suc n + b.index = omega arith in
      record { index = suc b.index; sub = b.sub; there = b.there; spot = b.spot; inside = b.inside; is = ap (λ k. spot_below c k b.spot) next ∙ b.is }
]

below-in : {T : Type 0} (c : MCtor) (n : ℕ) (ps : MDePats T) (i : ℕ) (q : MDePat T) (s : Spot) → slice_get (de_pats_list ps) i ≡ Some q →
    Contains (spots_in q) s → Contains (spots_below c n ps) (spot_below c (n + i) s)
below-in c n no_de_pats i q s e h = cc
below-in c n (more_de_pats p ps) zero q s e h =
    let same : p ≡ q = cc in
    let plus : n ≡ n + 0 = omega arith in
    subst (λ k. Contains (spots_below c n (more_de_pats p ps)) (spot_below c k s)) plus
    (Contains-append_left (map (spot_below c n) (spots_in p)) (spots_below c (suc n) ps) (spot_below c n s)
    (in-map (spot_below c n) (spots_in p) s (subst (λ r. Contains (spots_in r) s) (sym same) h)))
below-in c n (more_de_pats p ps) (suc i) q s e h =
    let next : suc n + i ≡ n + suc i = omega arith in
    Contains-append_right (map (spot_below c n) (spots_in p)) (spots_below c (suc n) ps) (spot_below c (n + suc i) s)
    (subst (λ k. Contains (spots_below c (suc n) ps) (spot_below c k s)) next (below-in c (suc n) ps i q s e h))

ends-path : {T : Type 0} (p : MDePat T) (path path' : List ℕ) (at at' : ℕ) (r r' : MRange) → path ≡ path' → at ≡ at' → r ≡ r' → EndsAt p path at r → EndsAt p path' at' r'
ends-path p path path' at at' r r' e f g h = subst (λ x. EndsAt p path' at' x) g (subst (λ x. EndsAt p path' x r) f (subst (λ x. EndsAt p x at r) e h))

-- a spot of a pattern is the end of its path. The bound is at least the length of the path
spot-ends-to : {T : Type 0} (bound : ℕ) (p : MDePat T) (s : Spot) → length s.path < bound → Contains (spots_in p) s → EndsAt p s.path s.at s.range
spot-ends-to zero p s l h = absurd (omega (arith, l))
spot-ends-to {T} (suc bound) (de_pat c t uid at subs binds) s l h = elim (Contains-append_cases (own_spot at (several_of c)) (spots_below c 0 subs) s h) [
  | inl own ↦
      let o = own-is at c s own in
      ends-path (de_pat c t uid at subs binds) [] s.path s.at s.at s.range s.range (sym o.0) refl refl (o.3, o.4, sym o.2)
  | inr below ↦
      let b = below-is c 0 subs s below in
      let path : b.index ∷ b.spot.path ≡ s.path = ap (λ k. k ∷ b.spot.path) (omega arith) ∙ ap (λ (x : Spot). x.path) b.is in
      let shorter : length b.spot.path < bound = omega (arith, l, ap length path) in
      ends-path (de_pat c t uid at subs binds) (b.index ∷ b.spot.path) s.path b.spot.at s.at b.spot.range s.range path (ap (λ (x : Spot). x.at) b.is) (ap (λ (x : Spot). x.range) b.is)
      (b.sub, b.there, spot-ends-to bound b.sub b.spot shorter b.inside)
]

pub spot-ends : {T : Type 0} (p : MDePat T) (s : Spot) → Contains (spots_in p) s → EndsAt p s.path s.at s.range
spot-ends p s h = spot-ends-to (suc (length s.path)) p s (omega arith) h

-- the path to a spot tells the steps to it. The bound is greater than the length of the path
one-steps-to : {T : Type 0} (bound : ℕ) (p : MDePat T) (s u : Spot) → length s.path < bound → Contains (spots_in p) s → Contains (spots_in p) u → s.path ≡ u.path → s.steps ≡ u.steps
one-steps-to zero p s u l g h e = absurd (omega (arith, l))
one-steps-to {T} (suc bound) (de_pat c t uid at subs binds) s u l g h e =
    elim (Contains-append_cases (own_spot at (several_of c)) (spots_below c 0 subs) s g) [
      | inl own ↦ elim (Contains-append_cases (own_spot at (several_of c)) (spots_below c 0 subs) u h) [
        | inl also ↦ (own-is at c s own).1 ∙ sym (own-is at c u also).1
        | inr below ↦
            let b = below-is c 0 subs u below in
            let none : [] ≡ (0 + b.index) ∷ b.spot.path = sym (own-is at c s own).0 ∙ e ∙ sym (ap (λ (x : Spot). x.path) b.is) in
            cc
      ]
      | inr here ↦ elim (Contains-append_cases (own_spot at (several_of c)) (spots_below c 0 subs) u h) [
        | inl own ↦
            let b = below-is c 0 subs s here in
            let none : [] ≡ (0 + b.index) ∷ b.spot.path = sym (own-is at c u own).0 ∙ sym e ∙ sym (ap (λ (x : Spot). x.path) b.is) in
            cc
        | inr there ↦ one-steps-below bound c subs s u (below-is c 0 subs s here) (below-is c 0 subs u there) l e (λ p x y. one-steps-to bound p x y)
      ]
    ]
  where
    one-steps-below : (bound : ℕ) (c : MCtor) (subs : MDePats T) (s u : Spot) (a : IsBelow c 0 subs s) (b : IsBelow c 0 subs u) → length s.path < suc bound → s.path ≡ u.path →
        ((p : MDePat T) (x y : Spot) → length x.path < bound → Contains (spots_in p) x → Contains (spots_in p) y → x.path ≡ y.path → x.steps ≡ y.steps) → s.steps ≡ u.steps
    one-steps-below bound c subs s u a b l e more =
        let whole : a.index ∷ a.spot.path ≡ b.index ∷ b.spot.path =
        ap (λ k. k ∷ a.spot.path) (sym (zero-add a.index)) ∙ ap (λ (x : Spot). x.path) a.is ∙ e ∙ sym (ap (λ (x : Spot). x.path) b.is) ∙ ap (λ k. k ∷ b.spot.path) (zero-add b.index) in
        let index : a.index ≡ b.index = cc in
        let paths : a.spot.path ≡ b.spot.path = cc in
        let got : Some a.sub ≡ Some b.sub = sym a.there ∙ ap (slice_get (de_pats_list subs)) index ∙ b.there in
        let sub : a.sub ≡ b.sub = cc in
        let shorter : length a.spot.path < bound = omega (arith, l, ap length (sym (ap (λ (x : Spot). x.path) a.is))) in
        let steps = more a.sub a.spot b.spot shorter a.inside (subst (λ p. Contains (spots_in p) b.spot) (sym sub) b.inside) paths in
        ap (λ (x : Spot). x.steps) (sym a.is) ∙ ap (λ k. steps_below c (0 + k) a.spot.steps) index ∙ ap (steps_below c (0 + b.index)) steps ∙ ap (λ (x : Spot). x.steps) b.is

pub one-steps : {T : Type 0} (p : MDePat T) (s u : Spot) → Contains (spots_in p) s → Contains (spots_in p) u → s.path ≡ u.path → s.steps ≡ u.steps
one-steps p s u g h e = one-steps-to (suc (length s.path)) p s u (omega arith) g h e

-- ---- what is met along a path

-- the step to a part of a value
abbrev pub step_at : MValue → ℕ → PartStep
step_at (Node k parts) i = record { variant = k; part = i }
step_at (Row items) i = record { variant = 0; part = 0 }
step_at _ i = record { variant = 0; part = i }

-- the steps to the part of a value at a position
abbrev pub steps_at : MValue → List ℕ → List PartStep
steps_at v [] = []
steps_at v (i ∷ is) = step_at v i ∷ elim (slice_get (parts_of v) i) [ None ↦ [] | Some u ↦ steps_at u is ]

number-from : (k : ℕ) (vs : List MValue) (i : ℕ) (n : NumberedPart) → slice_get (numbered_from k vs) i ≡ Some n → n.number ≡ k + i
number-from k [] i n e = cc
number-from k (v ∷ vs) zero n e = let same : record { number = k; part = v } ≡ n = cc in let plus : k ≡ k + 0 = omega arith in sym (ap (λ (m : NumberedPart). m.number) same) ∙ plus
number-from k (v ∷ vs) (suc i) n e = let h = number-from (suc k) vs i n e in omega (arith, h)

-- the step of a constructor is that of a value that it builds
same-step : (c : MCtor) (v : MValue) (i : ℕ) (n : NumberedPart) → builds [] c v ≡ true → slice_get (parts_met c (numbered_from 0 (parts_of v))) i ≡ Some n →
    step_in c i ≡ step_at v n.number
same-step (RowCtor s) (Row items) i n b e = refl
same-step (RowCtor s) _ i n b e = cc
same-step (VariantCtor j) (Node m parts) i n b e =
    let same : m ≡ j = grind (arith, nat_tests) in
    let number : n.number ≡ i = number-from 0 (parts_of (Node m parts)) i n e ∙ zero-add i in
    ap (λ x. record { variant = x; part = i }) (sym same) ∙ ap (λ x. record { variant = m; part = x }) (sym number)
same-step (VariantCtor j) _ i n b e = cc
same-step SingleCtor (Node m parts) i n b e =
    let same : m ≡ 0 = grind (arith, nat_tests) in
    let number : n.number ≡ i = number-from 0 (parts_of (Node m parts)) i n e ∙ zero-add i in
    ap (λ x. record { variant = x; part = i }) (sym same) ∙ ap (λ x. record { variant = m; part = x }) (sym number)
same-step SingleCtor _ i n b e = cc
same-step PointCtor (Point m u) i n b e = ap (λ x. record { variant = 0; part = x }) (sym (number-from 0 (u ∷ []) i n e ∙ zero-add i))
same-step PointCtor _ i n b e = cc
same-step LaterCtor Later i n b e = cc
same-step LaterCtor _ i n b e = cc
same-step (FlagCtor f) (Flag g) i n b e = cc
same-step (FlagCtor f) _ i n b e = cc
same-step (NumbersCtor r) (Num x) i n b e = cc
same-step (NumbersCtor r) _ i n b e = cc
same-step (TextCtor t) (Text u) i n b e = cc
same-step (TextCtor t) _ i n b e = cc
same-step OtherTextCtor (Text u) i n b e = cc
same-step OtherTextCtor _ i n b e = cc
same-step WildCtor _ i n b e = cc
same-step OrCtor _ i n b e = cc

-- the constructor is no or-pattern, so the step stands in front
in-front : (c : MCtor) (i : ℕ) (steps : List PartStep) (v : MValue) → builds [] c v ≡ true → steps_below c i steps ≡ step_in c i ∷ steps
in-front OrCtor i steps v e = cc
in-front _ i steps v e = refl

built-by : {T : Type 0} (p : MDePat T) (i : ℕ) (v : MValue) (position : List ℕ) (Below : MDePat T → MValue → List ℕ → Type 0) (m : PartAlong p i v position Below) →
    (builds [] (ctor_of p) v ≡ true) × (slice_get (parts_met (ctor_of p) (numbered_from 0 (parts_of v))) i ≡ Some m.part)
built-by p i v position Below m =
    let h = some-true (builds [] (ctor_of p) v) (parts_met (ctor_of p) (numbered_from 0 (parts_of v))) m.parts m.built in
    (h.0, ap (λ ps. slice_get ps i) h.1 ∙ m.part_there)

-- the spot of a path along which a value is met, and the steps to it
pub record IsSpot {T : Type 0} (p : MDePat T) (path : List ℕ) (v : MValue) (position : List ℕ) (offset : ℕ) (r : MRange) : Type 0 where
  pub spot : Spot
  pub inside : Contains (spots_in p) spot
  pub path_is : spot.path ≡ path
  pub steps_are : spot.steps ≡ steps_at v position
  pub at_is : spot.at ≡ offset
  pub range_is : spot.range ≡ r

spot-own : {T : Type 0} (p : MDePat T) (v : MValue) (position : List ℕ) (offset : ℕ) (r : MRange) → RangeMet p v position offset r → IsSpot p [] v position offset r
spot-own {T} (de_pat c t uid at subs binds) v position offset r m =
    let s : Spot = record { path = []; steps = []; at = at; range = r } in
    let own : own_spot at (several_of c) ≡ s ∷ [] = ap (λ d. own_spot at (several_of d)) m.ctor ∙ ap (λ b. own_spot at (if b then None else Some r)) m.several in
    record {
      spot = s;
      inside = Contains-append_left (own_spot at (several_of c)) (spots_below c 0 subs) s (subst (λ xs. Contains xs s) (sym own) (first-in s []));
      path_is = refl;
      steps_are = sym (ap (steps_at v) m.position_is);
      at_is = m.at_is;
      range_is = refl;
    }

spot-along : {T : Type 0} (path : List ℕ) (p : MDePat T) (v : MValue) (position : List ℕ) (offset : ℕ) (r : MRange) → MeetsAlong p path v position offset r →
    IsSpot p path v position offset r
spot-along [] p v position offset r m = spot-own p v position offset r m
spot-along {T} (i ∷ rest) (de_pat c t uid at subs binds) v position offset r (inl a) =
    let s = spot-along rest a.sub v position offset r a.below in
    let same : spot_below c (0 + i) s.spot ≡ record s.spot { path = i ∷ s.spot.path } =
    ap (λ d. spot_below d (0 + i) s.spot) a.is_or ∙ ap (λ k. record s.spot { path = k ∷ s.spot.path }) (zero-add i) in
    record {
      spot = record s.spot { path = i ∷ s.spot.path };
      inside = Contains-append_right (own_spot at (several_of c)) (spots_below c 0 subs) (record s.spot { path = i ∷ s.spot.path })
          (subst (Contains (spots_below c 0 subs)) same (below-in c 0 subs i a.sub s.spot a.sub_there s.inside));
      path_is = ap (λ xs. i ∷ xs) s.path_is;
      steps_are = s.steps_are;
      at_is = s.at_is;
      range_is = s.range_is;
    }
spot-along {T} (i ∷ rest) (de_pat c t uid at subs binds) v position offset r (inr m) =
    let s = spot-along rest m.sub m.part.part m.inner offset r m.below in
    let b = built-by (de_pat c t uid at subs binds) i v position (λ q u inner. MeetsAlong q rest u inner offset r) m in
    record {
      spot = spot_below c i s.spot;
      inside = Contains-append_right (own_spot at (several_of c)) (spots_below c 0 subs) (spot_below c i s.spot)
          (subst (λ k. Contains (spots_below c 0 subs) (spot_below c k s.spot)) (zero-add i) (below-in c 0 subs i m.sub s.spot m.sub_there s.inside));
      path_is = ap (λ xs. i ∷ xs) s.path_is;
      steps_are =
          in-front c i s.spot.steps v b.0 ∙ ap (λ x. x ∷ s.spot.steps) (same-step c v i m.part b.0 b.1) ∙ ap (λ xs. step_at v m.part.number ∷ xs) s.steps_are
          ∙ sym (ap (λ (u : Option MValue). step_at v m.part.number ∷ elim u [ None ↦ [] | Some w ↦ steps_at w m.inner ]) (part-there c v m.parts i m.part m.built m.part_there))
          ∙ sym (ap (steps_at v) m.position_is);
      at_is = s.at_is;
      range_is = s.range_is;
    }

-- a value that is met along a path has a spot there, and its position tells the steps
pub spot-met : {T : Type 0} (p : MDePat T) (path : List ℕ) (v : MValue) (position : List ℕ) (offset : ℕ) (r : MRange) → MeetsAlong p path v position offset r →
    IsSpot p path v position offset r
spot-met p path v position offset r m = spot-along path p v position offset r m
