-- A match is exhaustive exactly where its exact cover is empty; numbers that ascend differ.
use Rattle.std.proofs.Common.{◌≡◌, ◌↔◌, ℕ, Bool, true, false, not, ◌||◌, List, [], ◌∷◌, IsTrue, nat_eq, nat_lt, refl, sym, arith, subst}
use Rattle.std.proofs.lemmas.Bool.Decides.{nat_tests}
use Rattle.std.specs.List.{Contains, list_any}
use Rattle.match_model.specs.Values.{MValue}
use Rattle.match_model.specs.Match.{ArmWays, is_covered, IsExhaustive}
use Rattle.match_model.specs.Witness.{MWitness}
use Rattle.match_model.specs.ExactCover.{IsExactCover}
use Rattle.match_model.specs.Patterns.{MPat, is_none_of, all_differ}
use Rattle.match_model.specs.Match.{alternatives_in}
use Rattle.match_model.specs.SourcePatterns.{ascend, offsets_ascend, offsets_differ, ids_in}
use Rattle.match_model.proofs.Basics.{both, and_true, untrue}

clash : (b : Bool) → b ≡ false → b ≡ true → ⊥
clash true e h = untrue (sym e)
clash false e h = untrue h

first_of : (w : MWitness) (ws : List MWitness) → Contains (w ∷ ws) w
first_of w ws = (0, omega arith, refl)

none_in : (w : MWitness) → Contains [] w → ⊥
none_in w (n, l, h) = omega (arith, l)

pub empty_exactly : (Domain : MValue → Type 0) (arms : List ArmWays) (ws : List MWitness) → IsExactCover Domain arms ws → IsExhaustive Domain arms ↔ (ws ≡ [])
empty_exactly Domain arms ws cover = (forth ws cover, back)
  where
    forth : (us : List MWitness) → IsExactCover Domain arms us → IsExhaustive Domain arms → us ≡ []
    forth [] c e = refl
    forth (u ∷ us) c e =
        let f = c.each_fitted u (first_of u us) in
        absurd (clash (is_covered arms f.0) ((c.uncovered f.0 f.1 f.2).1 (u, first_of u us, f.3)) (e f.0 f.1 f.2))

    back : ws ≡ [] → IsExhaustive Domain arms
    back e v d n = go (is_covered arms v) refl
      where
        go : (b : Bool) → is_covered arms v ≡ b → IsTrue b
        go true h = refl
        go false h = let f = (cover.uncovered v d n).0 h in absurd (none_in f.0 (subst (λ l. Contains l f.0) e f.1))

below_others : (n m : ℕ) (ns : List ℕ) → nat_lt n m ≡ true → ascend (m ∷ ns) ≡ true → is_none_of (m ∷ ns) n ≡ true
below_others n m [] h a = grind (arith, nat_tests)
below_others n m (k ∷ ns) h a =
    let b = both (nat_lt m k) (ascend (k ∷ ns)) a in
    go (nat_eq n m) refl (below_others n k ns (less n m k h b.0) b.1)
  where
    less : (x y z : ℕ) → nat_lt x y ≡ true → nat_lt y z ≡ true → nat_lt x z ≡ true
    less x y z p q = grind (arith, nat_tests)

    go : (t : Bool) → nat_eq n m ≡ t → is_none_of (k ∷ ns) n ≡ true → not (t || list_any (nat_eq n) (k ∷ ns)) ≡ true
    go true e o = absurd (same n m h e)
      where
        same : (x y : ℕ) → nat_lt x y ≡ true → nat_eq x y ≡ true → ⊥
        same x y p q = grind (arith, nat_tests)
    go false e o = o

pub ascending_differ : (ns : List ℕ) → ascend ns ≡ true → all_differ ns ≡ true
ascending_differ [] a = refl
ascending_differ (n ∷ []) a = refl
ascending_differ (n ∷ m ∷ ns) a =
    let b = both (nat_lt n m) (ascend (m ∷ ns)) a in
    and_true (is_none_of (m ∷ ns) n) (all_differ (m ∷ ns)) (below_others n m ns b.0 b.1) (ascending_differ (m ∷ ns) b.1)

pub offsets_then_differ : (p : MPat) → offsets_ascend p ≡ true → offsets_differ p ≡ true
offsets_then_differ p a = ascending_differ (ids_in (alternatives_in p)) a
