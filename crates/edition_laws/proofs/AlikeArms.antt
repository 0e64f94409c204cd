-- Arms that have the same ways on the values of a domain: what is covered, reachable, listed and left out.
use Rattle.std.proofs.Common.{◌≡◌, ◌↔◌, ℕ, zero, suc, true, not, ◌&&◌, ◌||◌, List, [], ◌∷◌, refl, sym, ap, subst, ◌∙◌}
use Rattle.std.specs.List.{list_any}
use Rattle.match_model.specs.Lists.{Each}
use Rattle.match_model.specs.Values.{MValue}
use Rattle.match_model.specs.Match.{ArmWays, Alternatives, is_empty_list, arm_matches, arm_covers, is_covered, IsExhaustive, comes_to, IsArmReachable, counting_ways, goes_through, comes_through, IsAlternativeReachable}
use Rattle.match_model.specs.Unreachable.{Entry, Listed, nothing_left, is_reachable, is_listed, ListedFrom, no_arm, arm_is_reachable, arm_is_listed, IsUnreachableList}
use Rattle.match_model.specs.Witness.{MWitness}
use Rattle.match_model.specs.ExactCover.{IsExactCover}

-- both arms have the same guard, names and alternatives, and the same ways on the domain
pub record AlikeArm (D : MValue → Type 0) (x y : ArmWays) : Type 0 where
  pub guarded : x.guarded ≡ y.guarded
  pub same_ways : (v : MValue) → D v → x.ways_of v ≡ y.ways_of v
  pub id : x.id ≡ y.id
  pub at : x.at ≡ y.at
  pub alternatives : x.alternatives ≡ y.alternatives

-- the entries of alternatives, by what is reachable
listed_alike : (R S : ℕ → Type 0) → ((i : ℕ) → R i → S i) → ((i : ℕ) → S i → R i) → (arm : ℕ) (alts : Alternatives)
    (es : List Entry) → Listed R arm alts es → Listed S arm alts es
listed_alike R S f g arm _ _ nothing_left = nothing_left
listed_alike R S f g arm _ _ (is_reachable id at inside others es fs r l m) =
    is_reachable id at inside others es fs (f id r) (listed_alike R S f g arm inside es l)
    (listed_alike R S f g arm others fs m)
listed_alike R S f g arm _ _ (is_listed id at inside others fs r m) =
    is_listed id at inside others fs (λ k. r (g id k)) (listed_alike R S f g arm others fs m)

module _ (D : MValue → Type 0) where
  abbrev pub AlikeArms : List ArmWays → List ArmWays → Type 0
  AlikeArms xs ys = Each (AlikeArm D) xs ys

  matches_alike : (x y : ArmWays) → AlikeArm D x y → (v : MValue) → D v → arm_matches v x ≡ arm_matches v y
  matches_alike x y h v d = ap (λ ws. not (is_empty_list ws)) (h.same_ways v d)

  covers_alike : (x y : ArmWays) → AlikeArm D x y → (v : MValue) → D v → arm_covers v x ≡ arm_covers v y
  covers_alike x y h v d =
      ap (λ b. not b && arm_matches v x) h.guarded ∙ ap (λ b. not y.guarded && b) (matches_alike x y h v d)

  -- the same values are covered
  covered_alike : (xs ys : List ArmWays) → AlikeArms xs ys → (v : MValue) → D v → is_covered xs v ≡ is_covered ys v
  covered_alike [] [] h v d = refl
  covered_alike [] (y ∷ ys) h v d = absurd h
  covered_alike (x ∷ xs) [] h v d = absurd h
  covered_alike (x ∷ xs) (y ∷ ys) h v d =
      ap (λ b. b || is_covered xs v) (covers_alike x y h.0 v d)
      ∙ ap (λ b. arm_covers v y || b) (covered_alike xs ys h.1 v d)

  -- the same values come to each
  comes_alike : (xs ys : List ArmWays) → AlikeArms xs ys → (j : ℕ) (v : MValue) → D v →
      comes_to xs j v ≡ comes_to ys j v
  comes_alike [] [] h j v d = refl
  comes_alike [] (y ∷ ys) h j v d = absurd h
  comes_alike (x ∷ xs) [] h j v d = absurd h
  comes_alike (x ∷ xs) (y ∷ ys) h zero v d = matches_alike x y h.0 v d
  comes_alike (x ∷ xs) (y ∷ ys) h (suc j) v d =
      ap (λ b. not b && comes_to xs j v) (covers_alike x y h.0 v d)
      ∙ ap (λ b. not (arm_covers v y) && b) (comes_alike xs ys h.1 j v d)

  -- and through each alternative
  through_alike : (xs ys : List ArmWays) → AlikeArms xs ys → (j i : ℕ) (v : MValue) → D v →
      comes_through xs j i v ≡ comes_through ys j i v
  through_alike [] [] h j i v d = refl
  through_alike [] (y ∷ ys) h j i v d = absurd h
  through_alike (x ∷ xs) [] h j i v d = absurd h
  through_alike (x ∷ xs) (y ∷ ys) h zero i v d =
      ap (λ b. list_any (goes_through i) (counting_ways b (x.ways_of v))) h.0.guarded
      ∙ ap (λ ws. list_any (goes_through i) (counting_ways y.guarded ws)) (h.0.same_ways v d)
  through_alike (x ∷ xs) (y ∷ ys) h (suc j) i v d =
      ap (λ b. not b && comes_through xs j i v) (covers_alike x y h.0 v d)
      ∙ ap (λ b. not (arm_covers v y) && b) (through_alike xs ys h.1 j i v d)

  back_alike : (xs ys : List ArmWays) → AlikeArms xs ys → AlikeArms ys xs
  back_alike [] [] h = h
  back_alike [] (y ∷ ys) h = absurd h
  back_alike (x ∷ xs) [] h = absurd h
  back_alike (x ∷ xs) (y ∷ ys) h = (
    record {
      guarded = sym h.0.guarded;
      same_ways = λ v d. sym (h.0.same_ways v d);
      id = sym h.0.id;
      at = sym h.0.at;
      alternatives = sym h.0.alternatives;
    },
    back_alike xs ys h.1,
  )

  -- ---- what is found

  exhaustive_there : (xs ys : List ArmWays) → AlikeArms xs ys → IsExhaustive D xs → IsExhaustive D ys
  exhaustive_there xs ys h k v d n = sym (covered_alike xs ys h v d) ∙ k v d n

  cover_there : (xs ys : List ArmWays) (ws : List MWitness) → AlikeArms xs ys → IsExactCover D xs ws →
      IsExactCover D ys ws
  cover_there xs ys ws h k = record {
    each_fitted = k.each_fitted;
    apart = k.apart;
    uncovered = λ v d n. (
      λ e. (k.uncovered v d n).0 (covered_alike xs ys h v d ∙ e),
      λ w. sym (covered_alike xs ys h v d) ∙ (k.uncovered v d n).1 w,
    );
    ascending = k.ascending;
  }

  arm_there : (xs ys : List ArmWays) → AlikeArms xs ys → (j : ℕ) → IsArmReachable D xs j → IsArmReachable D ys j
  arm_there xs ys h j (v, d, c) = (v, d, sym (comes_alike xs ys h j v d) ∙ c)

  alternative_there : (xs ys : List ArmWays) → AlikeArms xs ys → (j i : ℕ) → IsAlternativeReachable D xs j i →
      IsAlternativeReachable D ys j i
  alternative_there xs ys h j i (v, d, c) = (v, d, sym (through_alike xs ys h j i v d) ∙ c)

  module _ (xs ys : List ArmWays) (h : AlikeArms xs ys) where
    from_there : (j : ℕ) (rest others : List ArmWays) → AlikeArms rest others → (es : List Entry) →
        ListedFrom D xs j rest es → ListedFrom D ys j others es
    from_there j _ [] g _ (no_arm k) = no_arm k
    from_there j _ (y ∷ others) g _ (no_arm k) = absurd g
    from_there j _ [] g _ (arm_is_reachable k x more fs gs r l m) = absurd g
    from_there j _ (y ∷ others) g _ (arm_is_reachable k x more fs gs r l m) =
        arm_is_reachable k y others fs gs (arm_there xs ys h k r)
        (subst (λ alts. Listed (IsAlternativeReachable D ys k) k alts fs) g.0.alternatives
        (listed_alike (IsAlternativeReachable D xs k) (IsAlternativeReachable D ys k)
        (λ i t. alternative_there xs ys h k i t) (λ i t. alternative_there ys xs (back_alike xs ys h) k i t) k
        x.alternatives fs l))
        (from_there (suc k) more others g.1 gs m)
    from_there j _ [] g _ (arm_is_listed k x more gs r m) = absurd g
    from_there j _ (y ∷ others) g _ (arm_is_listed k x more gs r m) =
        let named : record { arm = k; id = x.id; at = x.at; whole = true } ∷ gs
        ≡ record { arm = k; id = y.id; at = y.at; whole = true } ∷ gs =
        ap (λ n. record { arm = k; id = n; at = x.at; whole = true } ∷ gs) g.0.id
        ∙ ap (λ n. record { arm = k; id = y.id; at = n; whole = true } ∷ gs) g.0.at in
        subst (ListedFrom D ys k (y ∷ others)) (sym named)
        (arm_is_listed k y others gs (λ t. r (arm_there ys xs (back_alike xs ys h) k t))
        (from_there (suc k) more others g.1 gs m))

    unreachable_there : (es : List Entry) → IsUnreachableList D xs es → IsUnreachableList D ys es
    unreachable_there es u = from_there 0 xs ys h es u

  -- the same is found of both
  pub exhaustive_alike : (xs ys : List ArmWays) → AlikeArms xs ys → IsExhaustive D xs ↔ IsExhaustive D ys
  exhaustive_alike xs ys h = (exhaustive_there xs ys h, exhaustive_there ys xs (back_alike xs ys h))

  pub unreachable_alike : (xs ys : List ArmWays) → AlikeArms xs ys → (es : List Entry) →
      IsUnreachableList D xs es ↔ IsUnreachableList D ys es
  unreachable_alike xs ys h es = (unreachable_there xs ys h es, unreachable_there ys xs (back_alike xs ys h) es)

  pub cover_alike : (xs ys : List ArmWays) → AlikeArms xs ys → (ws : List MWitness) →
      IsExactCover D xs ws ↔ IsExactCover D ys ws
  cover_alike xs ys h ws = (cover_there xs ys ws h, cover_there ys xs ws (back_alike xs ys h))
