-- A walk over a pattern comes to all of its spots.
use Rattle.std.proofs.Common.{◌≡◌, ◌<◌, ◌≤◌, ℕ, zero, suc, ◌+◌, take, List, [], ◌∷◌, ◌++◌, map, length, get_or, None, refl, sym, ap, subst, ◌∙◌, arith, append_assoc, append-nil, zero-add}
use Rattle.std.proofs.lemmas.List.{take_all}
use Rattle.match_model.specs.Constructors.{MCtor}
use Rattle.match_model.specs.ArenaPatterns.{MDePat, de_pats_of}
use Rattle.pattern_arena.specs.declared.pattern.DePat.{DePat, out-DePat}
use Rattle.pattern_arena.specs.Trees.{tree, placed_ctor, placed_subs}
use Rattle.pattern_arena.proofs.TreeFacts.{tree_out}
use Rattle.pattern_lints.specs.declared.found.Finding.{Finding}
use Rattle.pattern_lints.specs.Finding.{Notes}
use Rattle.pattern_lints.proofs.Noting.{notes-then}
use Rattle.pattern_lints.specs.Spots.{Spot, spot_below, several_of, own_spot, spots_in, spots_below}

-- the spots of the patterns below, from number `i` on
abbrev pub spots_each : {T : Type 0} → MCtor → ℕ → List (MDePat T) → List Spot
spots_each c i [] = []
spots_each c i (p ∷ ps) = map (spot_below c i) (spots_in p) ++ spots_each c (suc i) ps

spots-listed : {T : Type 0} (c : MCtor) (i : ℕ) (ps : List (MDePat T)) → spots_below c i (de_pats_of ps) ≡ spots_each c i ps
spots-listed c i [] = refl
spots-listed c i (p ∷ ps) = ap (λ xs. map (spot_below c i) (spots_in p) ++ xs) (spots-listed c (suc i) ps)

-- the spots of a pattern, by what it is placed with
pub spots-out : {T : Type 0} (p : DePat T) →
    spots_in (tree p) ≡ own_spot (out-DePat T p).at (several_of (placed_ctor p)) ++ spots_each (placed_ctor p) 0 (map tree (placed_subs p))
spots-out {T} p =
    ap spots_in (tree_out p) ∙ ap (λ xs. own_spot (out-DePat T p).at (several_of (placed_ctor p)) ++ xs) (spots-listed (placed_ctor p) 0 (map tree (placed_subs p)))

spots-next : {T : Type 0} (c : MCtor) (n : ℕ) (subs : List (DePat T)) (i : ℕ) (q : DePat T) → i < length subs → q ≡ get_or subs i q →
    spots_each c n (map tree (take (suc i) subs)) ≡ spots_each c n (map tree (take i subs)) ++ map (spot_below c (n + i)) (spots_in (tree q))
spots-next c n [] i q l is = absurd (omega (arith, l))
spots-next c n (x ∷ xs) zero q l is =
    let plus : n ≡ n + 0 = omega arith in
    append-nil (map (spot_below c n) (spots_in (tree x))) ∙ ap (λ y. map (spot_below c n) (spots_in (tree y))) (sym is) ∙ ap (λ k. map (spot_below c k) (spots_in (tree q))) plus
spots-next c n (x ∷ xs) (suc i) q l is =
    let next : suc n + i ≡ n + suc i = omega arith in
    let front = map (spot_below c n) (spots_in (tree x)) in
    ap (λ ys. front ++ ys) (spots-next c (suc n) xs i q (omega (arith, l)) is)
    ∙ sym (append_assoc front (spots_each c (suc n) (map tree (take i xs))) (map (spot_below c (suc n + i)) (spots_in (tree q))))
    ∙ ap (λ k. (front ++ spots_each c (suc n) (map tree (take i xs))) ++ map (spot_below c k) (spots_in (tree q))) next

-- the spots of a pattern and of the first `i` below it
abbrev pub spots_to : {T : Type 0} → DePat T → ℕ → List Spot
spots_to {T} p i = own_spot (out-DePat T p).at (several_of (placed_ctor p)) ++ spots_each (placed_ctor p) 0 (map tree (take i (placed_subs p)))

-- one more of the patterns below
pub walk-more : {T : Type 0} (a b c : Finding) (place : ℕ) (p q : DePat T) (i : ℕ) → i < length (placed_subs p) → q ≡ get_or (placed_subs p) i q →
    Notes a b place (spots_to p i) → Notes b c place (map (spot_below (placed_ctor p) i) (spots_in (tree q))) → Notes a c place (spots_to p (i + 1))
walk-more {T} a b c place p q i l is g h =
    let own = own_spot (out-DePat T p).at (several_of (placed_ctor p)) in
    let front = spots_each (placed_ctor p) 0 (map tree (take i (placed_subs p))) in
    let last = map (spot_below (placed_ctor p) i) (spots_in (tree q)) in
    let step : spots_each (placed_ctor p) 0 (map tree (take (suc i) (placed_subs p))) ≡ front ++ last =
    spots-next (placed_ctor p) 0 (placed_subs p) i q l is ∙ ap (λ k. front ++ map (spot_below (placed_ctor p) k) (spots_in (tree q))) (zero-add i) in
    let next : suc i ≡ i + 1 = omega arith in
    subst (λ k. Notes a c place (spots_to p k)) next
    (subst (Notes a c place) (append_assoc own front last ∙ ap (λ xs. own ++ xs) (sym step)) (notes-then a b c place (own ++ front) last g h))

-- all of them
pub walk-all : {T : Type 0} (a b : Finding) (place : ℕ) (p : DePat T) (i : ℕ) → length (placed_subs p) ≤ i → Notes a b place (spots_to p i) → Notes a b place (spots_in (tree p))
walk-all {T} a b place p i l h =
    let own = own_spot (out-DePat T p).at (several_of (placed_ctor p)) in
    let whole : spots_to p i ≡ own ++ spots_each (placed_ctor p) 0 (map tree (placed_subs p)) =
    ap (λ (xs : List (DePat T)). own ++ spots_each (placed_ctor p) 0 (map tree xs)) (take_all i (placed_subs p) l) in
    subst (Notes a b place) (whole ∙ sym (spots-out p)) h

-- a pattern that is no range, with one below, has the spots of that one
pub spots_lone : {T : Type 0} (p q : DePat T) → placed_subs p ≡ q ∷ [] → several_of (placed_ctor p) ≡ None → spots_in (tree p) ≡ map (spot_below (placed_ctor p) 0) (spots_in (tree q))
spots_lone {T} p q one single =
    spots-out p ∙ ap (λ o. own_spot (out-DePat T p).at o ++ spots_each (placed_ctor p) 0 (map tree (placed_subs p))) single ∙ ap (λ xs. spots_each (placed_ctor p) 0 (map tree xs)) one
    ∙ append-nil (map (spot_below (placed_ctor p) 0) (spots_in (tree q)))

-- a pattern that is no range, with none below, has no spots
pub spots_none : {T : Type 0} (p : DePat T) → length (placed_subs p) ≡ 0 → several_of (placed_ctor p) ≡ None → spots_in (tree p) ≡ []
spots_none {T} p none single =
    spots-out p ∙ ap (λ o. own_spot (out-DePat T p).at o ++ spots_each (placed_ctor p) 0 (map tree (placed_subs p))) single ∙ ap (λ xs. spots_each (placed_ctor p) 0 (map tree xs)) (empty (placed_subs p) none)
  where
    empty : {X : Type 0} (xs : List X) → length xs ≡ 0 → xs ≡ []
    empty [] e = refl
    empty (x ∷ xs) e = cc
