-- Overlaps are gathered pair by pair.
use Rattle.std.proofs.Common.{◌≡◌, ◌≢◌, ◌<◌, ◌≤◌, ◌⊎◌, inl, inr, ℕ, ◌+◌, ℤ, Bool, List, [], ◌∷◌, ◌++◌, length, slice_get, Some, refl, sym, ap, subst, ◌∙◌, arith}
use Rattle.std.specs.List.{Contains}
use Rattle.std.proofs.lemmas.List.Elements.{Contains-append_left, Contains-push, Contains-push_cases}
use Rattle.match_model.specs.Values.{MValue}
use Rattle.match_model.specs.Numbers.{At}
use Rattle.match_model.specs.Overlaps.{MOverlap, MeetAt}
use Rattle.match_model.specs.Contexts.{Context}
use Rattle.match_model.specs.WellTyped.{IsWellTyped, IsTyped}
use Rattle.match_model.specs.ArenaPatterns.{MDeArm, MDeMatch}
use Rattle.range_split.specs.Numbers.{num_value}
use Rattle.pattern_lints.specs.declared.ends.Side.{Side}
use Rattle.pattern_lints.specs.declared.ends.Side.TheVariants.{Low, High}
use Rattle.pattern_lints.specs.declared.ends.RangeEnd.{RangeEnd}
use Rattle.pattern_lints.specs.Along.{EndsAt, Touching, MeetTogether}
use Rattle.pattern_lints.specs.Spots.{spots_in}
use Rattle.pattern_lints.specs.Finding.{RangeView}
use Rattle.pattern_lints.specs.Ends.{IsEnd, Faces, IsRun, across}
use Rattle.pattern_lints.specs.Pairing.{Adds, IsInArm, pair_at, IsPair, IsPairAcross, IsPairFacing, IsPairFrom}
use Rattle.pattern_lints.proofs.SpotLaws.{spot-ends}
use Rattle.pattern_lints.proofs.Tries.{in-at, at-in}
use Rattle.pattern_lints.proofs.EndList.{below-length, one-at, last-or-below}

-- ---- what is added

pub adds-none : (P : MOverlap → Type 0) (xs : List MOverlap) → ((o : MOverlap) → ¬ P o) → Adds P xs xs
adds-none P xs none = record { kept = λ o c. c; all = λ o p. absurd (none o p); from = λ o c. inl c }

pub adds-one : (P : MOverlap → Type 0) (xs : List MOverlap) (o : MOverlap) → P o → ((p : MOverlap) → P p → p ≡ o) → Adds P xs (xs ++ o ∷ [])
adds-one P xs o h one = record {
  kept = λ p c. Contains-append_left xs (o ∷ []) p c;
  all = λ p q. subst (Contains (xs ++ o ∷ [])) (sym (one p q)) (Contains-push xs o);
  from = λ p c. elim (Contains-push_cases xs o p c) [ inl old ↦ inl old | inr e ↦ inr (subst P e h) ];
}

pub adds-then : (P Q R : MOverlap → Type 0) (a b c : List MOverlap) → ((o : MOverlap) → P o → R o) → ((o : MOverlap) → Q o → R o) → ((o : MOverlap) → R o → P o ⊎ Q o) →
    Adds P a b → Adds Q b c → Adds R a c
adds-then P Q R a b c p q r g h = record {
  kept = λ o x. h.kept o (g.kept o x);
  all = λ o x. elim (r o x) [ inl y ↦ h.kept o (g.all o y) | inr y ↦ h.all o y ];
  from = λ o x. elim (h.from o x) [
    | inl y ↦ elim (g.from o y) [ inl z ↦ inl z | inr z ↦ inr (p o z) ]
    | inr y ↦ inr (q o y)
  ];
}

pub adds-same : (P Q : MOverlap → Type 0) (a b : List MOverlap) → ((o : MOverlap) → P o → Q o) → ((o : MOverlap) → Q o → P o) → Adds P a b → Adds Q a b
adds-same P Q a b p q h = record {
  kept = h.kept;
  all = λ o x. h.all o (q o x);
  from = λ o x. elim (h.from o x) [ inl y ↦ inl y | inr y ↦ inr (p o y) ];
}

-- what passes the test of an index from `first` on and before `i`
abbrev pub Within : (P : ℕ → MOverlap → Type 0) → (first i : ℕ) → MOverlap → Type 0
Within P first i o = (k : ℕ) × (first ≤ k) × (k < i) × P k o

pub within-none : (P : ℕ → MOverlap → Type 0) (first : ℕ) (xs : List MOverlap) → Adds (Within P first first) xs xs
within-none P first xs = adds-none (Within P first first) xs (λ o h. absurd (omega (arith, h.1, h.2)))

-- what passes that of one index more
pub within-more : (P : ℕ → MOverlap → Type 0) (first i : ℕ) (a b c : List MOverlap) → first ≤ i → Adds (Within P first i) a b → Adds (P i) b c → Adds (Within P first (i + 1)) a c
within-more P first i a b c l g h =
    adds-then (Within P first i) (P i) (Within P first (i + 1)) a b c (λ o x. (x.0, x.1, omega (arith, x.2), x.3)) (λ o x. (i, l, omega arith, x))
    (λ o x. elim (last-or-below x.0 i x.2) [ inl before ↦ inl (x.0, x.1, before, x.3) | inr here ↦ inr (subst (λ k. P k o) here x.3) ]) g h

-- ---- one pair

-- the arm of a well-typed match is well typed
pub typed-arm : {T : Type 0} (IsType : T → Type 0) (cx : Context T) (m : MDeMatch T) (i : ℕ) (a : MDeArm T) → IsWellTyped IsType cx m → slice_get m.arms i ≡ Some a → IsTyped cx m.type a.pat
typed-arm IsType cx m i a h e = h.typed a (in-at m.arms i a e)

arm-ends : {T : Type 0} (arms : List (MDeArm T)) (f : RangeView) (a : MDeArm T) → IsInArm arms f → slice_get arms f.arm ≡ Some a → EndsAt a.pat f.path f.at f.range
arm-ends arms f a h e =
    let same : h.arm ≡ a = one-at arms f.arm f.arm h.arm a refl h.there e in
    let ends = spot-ends a.pat h.spot (subst (λ (x : MDeArm _). Contains (spots_in x.pat) h.spot) same h.inside) in
    subst (λ p. EndsAt a.pat p f.at f.range) (sym h.path_is) (subst (λ n. EndsAt a.pat h.spot.path n f.range) (sym h.at_is) (subst (λ r. EndsAt a.pat h.spot.path h.spot.at r) (sym h.range_is) ends))

-- two ranges of which one ends where the other begins
pub arms-touch : {T : Type 0} (arms : List (MDeArm T)) (f g : RangeView) (x : ℤ) (a b : MDeArm T) → IsInArm arms f → IsInArm arms g → MeetAt f.range g.range x →
    slice_get arms f.arm ≡ Some a → slice_get arms g.arm ≡ Some b → Touching a.pat f.path b.pat g.path
arms-touch arms f g x a b h k t e d = record {
  first_at = f.at;
  second_at = g.at;
  first_range = f.range;
  second_range = g.range;
  number = x;
  first = arm-ends arms f a h e;
  second = arm-ends arms g b k d;
  meet = t;
}

module _ {T : Type 0} (IsValue : T → Bool → MValue → Type 0) (m : MDeMatch T) (f g : RangeView) (x : ℤ) (xs : List MOverlap) where
  -- two ranges at one offset
  pub pair-same : f.at ≡ g.at → Adds (IsPair IsValue m f g x) xs xs
  pair-same e = adds-none (IsPair IsValue m f g x) xs (λ o p. p.differ e)

  -- two that no value meets together
  pub pair-none : (a b : MDeArm T) → slice_get m.arms f.arm ≡ Some a → slice_get m.arms g.arm ≡ Some b → ¬ MeetTogether IsValue m.type m.sure a.pat f.path b.pat g.path →
      Adds (IsPair IsValue m f g x) xs xs
  pair-none a b e d none =
      adds-none (IsPair IsValue m f g x) xs
      (λ o p.
      let first : p.first_arm ≡ a = one-at m.arms f.arm f.arm p.first_arm a refl p.first_there e in
      let second : p.second_arm ≡ b = one-at m.arms g.arm g.arm p.second_arm b refl p.second_there d in
      none (subst (λ (y : MDeArm T). MeetTogether IsValue m.type m.sure y.pat f.path b.pat g.path) first
      (subst (λ (y : MDeArm T). MeetTogether IsValue m.type m.sure p.first_arm.pat f.path y.pat g.path) second p.together)))

  -- two that some value meets together
  pub pair-one : (a b : MDeArm T) (o : MOverlap) → slice_get m.arms f.arm ≡ Some a → slice_get m.arms g.arm ≡ Some b → f.at ≢ g.at →
      MeetTogether IsValue m.type m.sure a.pat f.path b.pat g.path → o ≡ pair_at f.at g.at x → Adds (IsPair IsValue m f g x) xs (xs ++ o ∷ [])
  pair-one a b o e d differ together is =
      adds-one (IsPair IsValue m f g x) xs o
      (record { first_arm = a; second_arm = b; first_there = e; second_there = d; differ = differ; together = together; is = is })
      (λ p q. q.is ∙ sym is)

-- ---- the pairs of one end

at-number : (x y : ℤ) → At x ≡ At y → x ≡ y
at-number x y e = cc

-- the ranges of two ends that face each other meet at their number
pub ends-meet : (side : Side) (fs : List RangeView) (e d : RangeEnd) (f g : RangeView) → IsEnd side fs e → IsEnd (across side) fs d → Faces side e d → slice_get fs e.index ≡ Some f →
    slice_get fs d.index ≡ Some g → MeetAt f.range g.range (num_value e.number)
ends-meet High fs e d f g h k faces there other =
    let one : h.range ≡ f = one-at fs e.index e.index h.range f refl h.there there in
    let two : k.range ≡ g = one-at fs d.index d.index k.range g refl k.there other in
    inl (subst (λ (y : RangeView). y.range.high ≡ At (num_value e.number)) one h.end, subst (λ (y : RangeView). y.range.low ≡ At (num_value e.number)) two (k.end ∙ ap At faces.number))
ends-meet Low fs e d f g h k faces there other =
    let one : h.range ≡ f = one-at fs e.index e.index h.range f refl h.there there in
    let two : k.range ≡ g = one-at fs d.index d.index k.range g refl k.there other in
    inr (subst (λ (y : RangeView). y.range.high ≡ At (num_value e.number)) two (k.end ∙ ap At faces.number), subst (λ (y : RangeView). y.range.low ≡ At (num_value e.number)) one h.end)

-- the overlap is that of the end with the one with the index `k`, which faces it
abbrev pub IsPairAt : {T : Type 0} → (IsValue : T → Bool → MValue → Type 0) → MDeMatch T → (fs : List RangeView) → Side → (others : List RangeEnd) → RangeEnd → ℕ → MOverlap → Type 0
IsPairAt IsValue m fs side others e k o = (d : RangeEnd) × (slice_get others k ≡ Some d) × Faces side e d × IsPairAcross IsValue m fs e d o

module _ {T : Type 0} (IsValue : T → Bool → MValue → Type 0) (m : MDeMatch T) (fs : List RangeView) (side : Side) (others : List RangeEnd) (e : RangeEnd) where
  -- the pair with one end
  pub pair-at : (k : ℕ) (d : RangeEnd) (f g : RangeView) (a b : List MOverlap) → slice_get others k ≡ Some d → Faces side e d → slice_get fs e.index ≡ Some f → slice_get fs d.index ≡ Some g →
      Adds (IsPair IsValue m f g (num_value e.number)) a b → Adds (IsPairAt IsValue m fs side others e k) a b
  pair-at k d f g a b at faces there other adds =
      adds-same (IsPair IsValue m f g (num_value e.number)) (IsPairAt IsValue m fs side others e k) a b
      (λ o p. (d, at, faces, record { first = f; second = g; first_there = there; second_there = other; pair = p }))
      (λ o q.
      let same : q.0 ≡ d = one-at others k k q.0 d refl q.1 at in
      let across = q.3 in
      let one : across.first ≡ f = one-at fs e.index e.index across.first f refl across.first_there there in
      let two : across.second ≡ g = one-at fs q.0.index d.index across.second g (ap (λ (y : RangeEnd). y.index) same) across.second_there other in
      subst (λ y. IsPair IsValue m y g (num_value e.number) o) one (subst (λ y. IsPair IsValue m across.first y (num_value e.number) o) two across.pair)) adds

  -- the pairs of an end are those with the ends of its run
  pub pairs-run : (first end i : ℕ) (a b : List MOverlap) → IsRun side e others first end → end ≤ i → Adds (Within (IsPairAt IsValue m fs side others e) first i) a b →
      Adds (IsPairFacing IsValue m fs side others e) a b
  pairs-run first end i a b run l adds =
      adds-same (Within (IsPairAt IsValue m fs side others e) first i) (IsPairFacing IsValue m fs side others e) a b
      (λ o q. (q.3.0, in-at others q.0 q.3.0 q.3.1, q.3.2, q.3.3))
      (λ o p.
      let k = at-in others p.0 p.1 in
      let within = run.every k.0 p.0 k.1 p.2 in
      (k.0, within.0, omega (arith, within.1, l), (p.0, k.1, p.2, p.3))) adds

-- ---- the pairs of all ends

-- the overlap is one of the end with the index `k`
abbrev pub IsPairOfEnd : {T : Type 0} → (IsValue : T → Bool → MValue → Type 0) → MDeMatch T → (fs : List RangeView) → Side → (ends others : List RangeEnd) → ℕ → MOverlap → Type 0
IsPairOfEnd IsValue m fs side ends others k o = (e : RangeEnd) × (slice_get ends k ≡ Some e) × IsPairFacing IsValue m fs side others e o

module _ {T : Type 0} (IsValue : T → Bool → MValue → Type 0) (m : MDeMatch T) (fs : List RangeView) (side : Side) (ends others : List RangeEnd) where
  pub pairs-of : (k : ℕ) (e : RangeEnd) (a b : List MOverlap) → slice_get ends k ≡ Some e → Adds (IsPairFacing IsValue m fs side others e) a b → Adds (IsPairOfEnd IsValue m fs side ends others k) a b
  pairs-of k e a b at adds =
      adds-same (IsPairFacing IsValue m fs side others e) (IsPairOfEnd IsValue m fs side ends others k) a b (λ o p. (e, at, p))
      (λ o q. subst (λ y. IsPairFacing IsValue m fs side others y o) (one-at ends k k q.0 e refl q.1 at) q.2) adds

  pub pairs-all : (i : ℕ) (a b : List MOverlap) → length ends ≤ i → Adds (Within (IsPairOfEnd IsValue m fs side ends others) 0 i) a b → Adds (IsPairFrom IsValue m fs side ends others) a b
  pairs-all i a b l adds =
      adds-same (Within (IsPairOfEnd IsValue m fs side ends others) 0 i) (IsPairFrom IsValue m fs side ends others) a b (λ o q. (q.3.0, in-at ends q.0 q.3.0 q.3.1, q.3.2))
      (λ o p. let k = at-in ends p.0 p.1 in let less = below-length ends k.0 p.0 k.1 in (k.0, omega arith, omega (arith, less, l), (p.0, k.1, p.2))) adds
