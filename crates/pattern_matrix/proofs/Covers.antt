-- The witness list of a match says exactly what its arms leave out, and says nothing twice.
use Rattle.std.proofs.Common.{◌≡◌, ◌≢◌, ◌↔◌, ◌<◌, ℕ, zero, suc, ◌+◌, Bool, true, false, not, ◌&&◌, ◌||◌, List, [], ◌∷◌, ◌++◌, map, Some, nat_lt, slice_get, refl, sym, ap, subst, ◌∙◌, arith, IsTrue}
use Rattle.std.proofs.lemmas.Bool.Decides.{nat_tests}
use Rattle.std.specs.List.{list_any, flat_map, Contains}
use Rattle.match_model.specs.Values.{MValue, Unseen}
use Rattle.match_model.specs.Contexts.{Context}
use Rattle.match_model.specs.ContextLaws.{PartsLaw, ValuesLaw}
use Rattle.match_model.specs.ArenaPatterns.{MDeArm, MDeMatch}
use Rattle.match_model.specs.ArenaWays.{match_arms, InMatchDomain, arena_ways}
use Rattle.match_model.specs.Match.{is_covered, is_empty_list}
use Rattle.match_model.specs.Ways.{Way}
use Rattle.match_model.specs.Witness.{MWitness, witnesses_of, fits, all_fit}
use Rattle.match_model.specs.WitnessList.{IsWitnessList, nothing_to_match, by_rows, row_of}
use Rattle.match_model.specs.WellTyped.{IsTyped}
use Rattle.match_model.proofs.Basics.{both}
use Rattle.constructor_sets.specs.Columns.{one}
use Rattle.pat_context.specs.Parts.{AreValues}
use Rattle.pattern_matrix.specs.Covering.{is_some_there, row_takes, some_takes, fit_count}
use Rattle.pattern_matrix.proofs.SpecialTyped.{AllTyped}
use Rattle.pattern_matrix.proofs.Takes.{any-append}
use Rattle.pattern_matrix.proofs.Places.{cols}
use Rattle.match_model.specs.Made.{IsMadePat, AreArmsMade}
use Rattle.pattern_matrix.proofs.Made.{AreMadeRows}
use Rattle.pattern_matrix.proofs.Exact.{fit_stacks, fitted_stacks, AreFitted}

-- how many of the witnesses the value fits
abbrev pub fit_times : List MWitness → MValue → ℕ
fit_times [] v = 0
fit_times (w ∷ ws) v = one (fits w v) + fit_times ws v

fit_same : (ws : List MWitness) (v : MValue) → fit_count (map (λ w. w ∷ []) ws) (v ∷ []) ≡ fit_times ws v
fit_same [] v = refl
fit_same (w ∷ ws) v =
    ap (λ b. one b + fit_count (map (λ w. w ∷ []) ws) (v ∷ [])) (and_true (fits w v))
    ∙ ap (λ n. one (fits w v) + n) (fit_same ws v)
  where
    and_true : (b : Bool) → (b && true) ≡ b
    and_true true = refl
    and_true false = refl

some_way : (ws : List Way) → not (is_empty_list ws) ≡ is_some_there ws
some_way [] = refl
some_way (w ∷ ws) = refl

-- the rows of the arms without a guard take what these arms cover
pub covered_takes : {T : Type 0} (arms : List (MDeArm T)) (v : MValue) →
    some_takes (flat_map row_of arms) (v ∷ []) ≡ list_any (λ a. not a.guarded && is_some_there (arena_ways a.pat v)) arms
covered_takes [] v = refl
covered_takes {T} (a ∷ arms) v =
    any-append (λ r. row_takes r (v ∷ [])) (row_of a) (flat_map row_of arms)
    ∙ ap (λ b. b || some_takes (flat_map row_of arms) (v ∷ [])) (go a.guarded)
    ∙ ap (λ b. (not a.guarded && is_some_there (arena_ways a.pat v)) || b) (covered_takes arms v)
  where
    clean : (b : Bool) → ((b && true) || false) ≡ b
    clean true = refl
    clean false = refl

    go : (g : Bool) →
        some_takes (row_of (record { pat = a.pat; guarded = g })) (v ∷ []) ≡ (not g && is_some_there (arena_ways a.pat v))
    go true = refl
    go false = clean (is_some_there (arena_ways a.pat v))

pub covered_is : {T : Type 0} (m : MDeMatch T) (v : MValue) →
    is_covered (match_arms m) v ≡ some_takes (flat_map row_of m.arms) (v ∷ [])
covered_is {T} m v = go m.arms ∙ sym (covered_takes m.arms v)
  where
    go : (arms : List (MDeArm T)) →
        list_any (Rattle.match_model.specs.Match.arm_covers v)
        (map Rattle.match_model.specs.ArenaWays.arena_arm arms) ≡ list_any (λ a. not a.guarded && is_some_there (arena_ways a.pat v)) arms
    go [] = refl
    go (a ∷ arms) =
        ap (λ b. (not a.guarded && b) || list_any (Rattle.match_model.specs.Match.arm_covers v) (map Rattle.match_model.specs.ArenaWays.arena_arm arms)) (some_way (arena_ways a.pat v))
        ∙ ap (λ b. (not a.guarded && is_some_there (arena_ways a.pat v)) || b) (go arms)

-- from counts to elements

here : (w : MWitness) (ws : List MWitness) → Contains (w ∷ ws) w
here w ws = (0, omega arith, refl)

there : (w u : MWitness) (ws : List MWitness) → Contains ws u → Contains (w ∷ ws) u
there w u ws (k, l, e) = (suc k, omega (arith, l), e)

-- where the value fits once, a witness has it
times_some : (ws : List MWitness) (v : MValue) → fit_times ws v ≡ 1 → (w : MWitness) × Contains ws w × IsTrue (fits w v)
times_some [] v e = absurd (omega (arith, e))
times_some (w ∷ ws) v e = go (fits w v) refl e (times_some ws v)
  where
    go : (b : Bool) → fits w v ≡ b → one b + fit_times ws v ≡ 1 →
        (fit_times ws v ≡ 1 → (u : MWitness) × Contains ws u × IsTrue (fits u v)) →
        (u : MWitness) × Contains (w ∷ ws) u × IsTrue (fits u v)
    go true f e k = (w, here w ws, f)
    go false f e k = let r = k (omega (arith, e)) in (r.0, there w r.0 ws r.1, r.2)

-- where it fits a witness it fits at least once
times_at : (ws : List MWitness) (i : ℕ) (w : MWitness) (v : MValue) → slice_get ws i ≡ Some w → IsTrue (fits w v) →
    0 < fit_times ws v
times_at [] i w v e f = absurd (cc)
times_at (x ∷ ws) zero w v e f = let s : x ≡ w = cc in let t : one (fits x v) ≡ 1 = ap one (ap (λ y. fits y v) s ∙ f) in omega (arith, t)
times_at (x ∷ ws) (suc i) w v e f = let k = times_at ws i w v e f in omega (arith, k)

-- where it fits two it fits more than once
times_two : (ws : List MWitness) (i j : ℕ) (w u : MWitness) (v : MValue) → slice_get ws i ≡ Some w →
    slice_get ws j ≡ Some u → i < j → IsTrue (fits w v) → IsTrue (fits u v) → 1 < fit_times ws v
times_two [] i j w u v e f l a b = absurd (cc)
times_two (x ∷ ws) zero zero w u v e f l a b = absurd (omega (arith, l))
times_two (x ∷ ws) zero (suc j) w u v e f l a b =
    let s : x ≡ w = cc in
    let t : one (fits x v) ≡ 1 = ap one (ap (λ y. fits y v) s ∙ a) in
    let k = times_at ws j u v f b in
    omega (arith, t, k)
times_two (x ∷ ws) (suc i) zero w u v e f l a b = absurd (omega (arith, l))
times_two (x ∷ ws) (suc i) (suc j) w u v e f l a b = let k = times_two ws i j w u v e f (omega (arith, l)) a b in omega (arith, k)

contained : (ws : List MWitness) (w : MWitness) (v : MValue) → Contains ws w → IsTrue (fits w v) → 0 < fit_times ws v
contained [] w v (k, l, e) f = absurd (omega (arith, l))
contained (x ∷ ws) w v (zero, l, e) f = let t : one (fits x v) ≡ 1 = ap one (ap (λ y. fits y v) e ∙ f) in omega (arith, t)
contained (x ∷ ws) w v (suc k, l, e) f = let r = contained ws w v (k, omega (arith, l), e) f in omega (arith, r)

one_least : (b : Bool) → 0 < one b → b ≡ true
one_least true l = refl
one_least false l = absurd (omega (arith, l))

one_most : (b : Bool) → 1 < one b → ⊥
one_most true l = omega (arith, l)
one_most false l = omega (arith, l)

not_true : (b : Bool) → not b ≡ true → b ≡ false
not_true true e = sym e
not_true false e = refl

-- by counts

abbrev pub AreArmsTyped : {T : Type 0} → Context T → T → List (MDeArm T) → Type 0
AreArmsTyped cx t [] = Unit {0}
AreArmsTyped cx t (a ∷ arms) = IsTyped cx t a.pat × AreArmsTyped cx t arms

module _ {T : Type 0} (IsType : T → Type 0) (IsValue : T → Bool → MValue → Type 0) (cx : Context T) (values : ValuesLaw IsType IsValue cx) (law : PartsLaw IsType IsValue cx) where
  pub rows_made : (arms : List (MDeArm T)) → AreArmsMade arms → AreMadeRows (flat_map row_of arms)
  rows_made [] h = tt
  rows_made (a ∷ arms) h = go a.guarded h.0 (rows_made arms h.1)
    where
      go : (g : Bool) → IsMadePat a.pat → AreMadeRows (flat_map row_of arms) →
          AreMadeRows (row_of (record { pat = a.pat; guarded = g }) ++ flat_map row_of arms)
      go true h k = k
      go false h k = ((h, tt), k)

  pub rows_typed : (m : MDeMatch T) (arms : List (MDeArm T)) → AreArmsTyped cx m.type arms →
      AllTyped cx (cols (record { type = m.type; sure = m.sure } ∷ [])) (flat_map row_of arms)
  rows_typed m [] h = tt
  rows_typed m (a ∷ arms) h = go a.guarded h.0 (rows_typed m arms h.1)
    where
      go : (g : Bool) → IsTyped cx m.type a.pat →
          AllTyped cx (cols (record { type = m.type; sure = m.sure } ∷ [])) (flat_map row_of arms) →
          AllTyped cx (cols (record { type = m.type; sure = m.sure } ∷ [])) (row_of (record { pat = a.pat; guarded = g }) ++ flat_map row_of arms)
      go true h k = k
      go false h k = ((h, tt), k)

  -- a value of the domain fits one witness where it is not covered, else none
  pub fits_once : (m : MDeMatch T) (ws : List MWitness) → IsType m.type → AreArmsTyped cx m.type m.arms →
      AreArmsMade m.arms → IsWitnessList cx IsValue m ws → (v : MValue) → InMatchDomain IsValue m v → v ≢ Unseen →
      fit_times ws v ≡ one (not (is_covered (match_arms m) v))
  fits_once m ws d h y (nothing_to_match f) v k u = absurd (u (f v k))
  fits_once m ws d h y (by_rows x us k u w) v l n =
      sym (fit_same us v)
      ∙ fit_stacks IsType IsValue cx values law (record { type = m.type; sure = m.sure } ∷ []) (flat_map row_of m.arms) (map (λ z. z ∷ []) us) w (d, tt) (rows_typed m m.arms h) (rows_made m.arms y) (v ∷ []) (l, tt)
      ∙ ap (λ b. one (not b)) (sym (covered_is m v))

  -- it is uncovered exactly where it fits a witness
  pub uncovered_is : (m : MDeMatch T) (ws : List MWitness) → IsType m.type → AreArmsTyped cx m.type m.arms →
      AreArmsMade m.arms → IsWitnessList cx IsValue m ws → (v : MValue) → InMatchDomain IsValue m v → v ≢ Unseen →
      (is_covered (match_arms m) v ≡ false) ↔ ((w : MWitness) × Contains ws w × IsTrue (fits w v))
  uncovered_is m ws d h y l v k u =
      let e = fits_once m ws d h y l v k u in (
        (λ c. times_some ws v (e ∙ ap (λ b. one (not b)) c)),
        (λ (w, i, f). not_true (is_covered (match_arms m) v) (one_least (not (is_covered (match_arms m) v)) (subst (λ n. 0 < n) e (contained ws w v i f)))),
      )

  fits_most : (m : MDeMatch T) (ws : List MWitness) → IsType m.type → AreArmsTyped cx m.type m.arms →
      AreArmsMade m.arms → IsWitnessList cx IsValue m ws → (v : MValue) → InMatchDomain IsValue m v →
      1 < fit_times ws v → ⊥
  fits_most m ws d h y (nothing_to_match f) v k l = omega (arith, l)
  fits_most m ws d h y (by_rows x us k u w) v a l =
      one_most (not (some_takes (flat_map row_of m.arms) (v ∷ [])))
      (subst (λ n. 1 < n)
      (sym (fit_same us v)
      ∙ fit_stacks IsType IsValue cx values law (record { type = m.type; sure = m.sure } ∷ []) (flat_map row_of m.arms) (map (λ z. z ∷ []) us) w (d, tt) (rows_typed m m.arms h) (rows_made m.arms y) (v ∷ []) (a, tt)) l)

  -- it fits no two
  pub apart_is : (m : MDeMatch T) (ws : List MWitness) → IsType m.type → AreArmsTyped cx m.type m.arms →
      AreArmsMade m.arms → IsWitnessList cx IsValue m ws → (i j : ℕ) (w x : MWitness) (v : MValue) →
      slice_get ws i ≡ Some w → slice_get ws j ≡ Some x → i ≢ j → InMatchDomain IsValue m v → IsTrue (fits w v) → IsTrue (fits x v) → ⊥
  apart_is m ws d h y l i j w x v a b c k f g = fits_most m ws d h y l v k (go (nat_lt i j) refl)
    where
      before : (i j : ℕ) → nat_lt i j ≡ true → i < j
      before i j h = grind (arith, nat_tests)

      behind : (i j : ℕ) → nat_lt i j ≡ false → (i ≡ j → ⊥) → j < i
      behind i j h n = grind (arith, nat_tests)

      go : (t : Bool) → nat_lt i j ≡ t → 1 < fit_times ws v
      go true e = times_two ws i j w x v a b (before i j e) f g
      go false e = times_two ws j i x w v b a (behind i j e c) g f

  -- each witness is fitted by a value of the domain
  pub each_is : (m : MDeMatch T) (ws : List MWitness) → IsType m.type → AreArmsTyped cx m.type m.arms →
      AreArmsMade m.arms → IsWitnessList cx IsValue m ws → (w : MWitness) → Contains ws w →
      (v : MValue) × InMatchDomain IsValue m v × IsTrue (fits w v)
  each_is m ws d h y (nothing_to_match f) w (k, l, e) = absurd (omega (arith, l))
  each_is m ws d h y (by_rows x us k u w) q c =
      go us (fitted_stacks IsType IsValue cx values law (record { type = m.type; sure = m.sure } ∷ []) (flat_map row_of m.arms) (map (λ z. z ∷ []) us) w (d, tt) (rows_typed m m.arms h) (rows_made m.arms y) (x ∷ []) (k, tt)) c
    where
      alone : (a : MWitness) →
          (vs : List MValue) × AreValues IsValue (record { type = m.type; sure = m.sure } ∷ []) vs × (all_fit (witnesses_of (a ∷ [])) vs ≡ true) →
          (v : MValue) × InMatchDomain IsValue m v × IsTrue (fits a v)
      alone a ([], b, f) = absurd b
      alone a (v ∷ [], b, f) = (v, b.0, (both (fits a v) true f).0)
      alone a (v ∷ z ∷ vs, b, f) = absurd b.1

      go : (us : List MWitness) →
          AreFitted IsType IsValue cx values law (record { type = m.type; sure = m.sure } ∷ []) (map (λ z. z ∷ []) us) →
          Contains us q → (v : MValue) × InMatchDomain IsValue m v × IsTrue (fits q v)
      go [] a (n, l, e) = absurd (omega (arith, l))
      go (z ∷ zs) a (zero, l, e) =
          subst (λ r. (v : MValue) × InMatchDomain IsValue m v × IsTrue (fits r v)) e (alone z a.0)
      go (z ∷ zs) a (suc n, l, e) = go zs a.1 (n, omega (arith, l), e)
