-- What is tried of a match: each way of each arm.
use Rattle.std.proofs.Common.{◌≡◌, ◌⊎◌, inl, inr, ℕ, zero, suc, ◌+◌, Bool, List, [], ◌∷◌, ◌++◌, map, length, slice_get, Some, refl, sym, ap, subst, ◌∙◌, arith, zero-add}
use Rattle.std.specs.List.{Contains}
use Rattle.match_model.specs.Values.{MValue}
use Rattle.match_model.specs.Ways.{Way}
use Rattle.match_model.specs.Select.{Try, try_of, tries_from}
use Rattle.match_model.specs.ArenaPatterns.{MDeArm}
use Rattle.match_model.specs.ArenaWays.{arena_arm, arena_ways}
use Rattle.pattern_lints.proofs.SpotLaws.{nothing-in, first-in, later-in, first-or-later}

-- a thing at an index is in the list
pub in-at : {X : Type 0} (xs : List X) (i : ℕ) (x : X) → slice_get xs i ≡ Some x → Contains xs x
in-at [] i x e = cc
in-at (y ∷ ys) zero x e = let same : y ≡ x = cc in subst (Contains (y ∷ ys)) same (first-in y ys)
in-at (y ∷ ys) (suc i) x e = later-in y ys x (in-at ys i x e)

-- a thing in a list has an index
pub at-in : {X : Type 0} (xs : List X) (x : X) → Contains xs x → (i : ℕ) × (slice_get xs i ≡ Some x)
at-in [] x h = absurd (nothing-in x h)
at-in (y ∷ ys) x h = elim (first-or-later y ys x h) [
  | inl e ↦ (zero, ap Some e)
  | inr r ↦ let f = at-in ys x r in (suc f.0, f.1)
]

at-left : {X : Type 0} (xs ys : List X) (i : ℕ) (x : X) → slice_get xs i ≡ Some x → slice_get (xs ++ ys) i ≡ Some x
at-left [] ys i x e = cc
at-left (y ∷ xs) ys zero x e = e
at-left (y ∷ xs) ys (suc i) x e = at-left xs ys i x e

at-right : {X : Type 0} (xs ys : List X) (i : ℕ) (x : X) → slice_get ys i ≡ Some x → slice_get (xs ++ ys) (length xs + i) ≡ Some x
at-right [] ys i x e = ap (slice_get ys) (zero-add i) ∙ e
at-right (y ∷ xs) ys i x e =
    let next : suc (length xs) + i ≡ suc (length xs + i) = omega arith in
    ap (slice_get (y ∷ (xs ++ ys))) next ∙ at-right xs ys i x e

-- a try is a way of an arm
pub record IsTryOf {T : Type 0} (arms : List (MDeArm T)) (v : MValue) (t : Try) : Type 0 where
  pub index : ℕ
  pub arm : MDeArm T
  pub there : slice_get arms index ≡ Some arm
  pub way : Contains (arena_ways arm.pat v) t.way

in-tries : {X : Type 0} (xs ys : List X) (i : ℕ) (x : X) → slice_get (xs ++ ys) i ≡ Some x → (Contains xs x) ⊎ ((k : ℕ) × (slice_get ys k ≡ Some x))
in-tries [] ys i x e = inr (i, e)
in-tries (y ∷ xs) ys zero x e = let same : y ≡ x = cc in inl (subst (Contains (y ∷ xs)) same (first-in y xs))
in-tries (y ∷ xs) ys (suc i) x e = elim (in-tries xs ys i x e) [
  | inl h ↦ inl (later-in y xs x h)
  | inr h ↦ inr h
]

tried-way : (j : ℕ) (g : Bool) (ws : List Way) (t : Try) → Contains (map (try_of j g) ws) t → Contains ws t.way
tried-way j g [] t h = absurd (nothing-in t h)
tried-way j g (w ∷ ws) t h = elim (first-or-later (try_of j g w) (map (try_of j g) ws) t h) [
  | inl e ↦ subst (Contains (w ∷ ws)) (ap (λ (u : Try). u.way) e) (first-in w ws)
  | inr r ↦ later-in w ws t.way (tried-way j g ws t r)
]

pub try-is : {T : Type 0} (j : ℕ) (arms : List (MDeArm T)) (v : MValue) (i : ℕ) (t : Try) → slice_get (tries_from j (map arena_arm arms) v) i ≡ Some t → IsTryOf arms v t
try-is j [] v i t e = cc
try-is {T} j (a ∷ arms) v i t e =
    elim (in-tries (map (try_of j a.guarded) (arena_ways a.pat v)) (tries_from (suc j) (map arena_arm arms) v) i t e) [
      | inl here ↦ record { index = 0; arm = a; there = refl; way = tried-way j a.guarded (arena_ways a.pat v) t here }
      | inr later ↦
          let h = try-is (suc j) arms v later.0 t later.1 in
          record { index = suc h.index; arm = h.arm; there = h.there; way = h.way }
    ]

way-at : (j : ℕ) (g : Bool) (ws : List Way) (w : Way) → Contains ws w → (i : ℕ) × (t : Try) × (slice_get (map (try_of j g) ws) i ≡ Some t) × (t.way ≡ w)
way-at j g [] w h = absurd (nothing-in w h)
way-at j g (x ∷ ws) w h = elim (first-or-later x ws w h) [
  | inl e ↦ (zero, try_of j g x, refl, e)
  | inr r ↦ let f = way-at j g ws w r in (suc f.0, f.1, f.2, f.3)
]

-- each way of each arm is tried
pub way-tried : {T : Type 0} (j : ℕ) (arms : List (MDeArm T)) (v : MValue) (k : ℕ) (a : MDeArm T) (w : Way) → slice_get arms k ≡ Some a → Contains (arena_ways a.pat v) w →
    (i : ℕ) × (t : Try) × (slice_get (tries_from j (map arena_arm arms) v) i ≡ Some t) × (t.way ≡ w)
way-tried j [] v k a w e h = cc
way-tried {T} j (b ∷ arms) v zero a w e h =
    let same : b ≡ a = cc in
    let f = way-at j b.guarded (arena_ways b.pat v) w (subst (λ (x : MDeArm T). Contains (arena_ways x.pat v) w) (sym same) h) in
    (f.0, f.1, at-left (map (try_of j b.guarded) (arena_ways b.pat v)) (tries_from (suc j) (map arena_arm arms) v) f.0 f.1 f.2, f.3)
way-tried j (b ∷ arms) v (suc k) a w e h =
    let f = way-tried (suc j) arms v k a w e h in
    let front = map (try_of j b.guarded) (arena_ways b.pat v) in
    (length front + f.0, f.1, at-right front (tries_from (suc j) (map arena_arm arms) v) f.0 f.1 f.2, f.3)
