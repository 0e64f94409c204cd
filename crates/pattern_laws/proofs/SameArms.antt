-- Arms that have the same ways but for names in traces: what is covered, reachable and listed.
use Rattle.std.proofs.Common.{◌≡◌, ℕ, zero, suc, ◌+◌, true, not, ◌&&◌, ◌||◌, List, [], ◌∷◌, ◌++◌, map, Some, slice_get, refl, sym, ap, subst, ◌∙◌, arith}
use Rattle.std.specs.List.{list_any}
use Rattle.std.proofs.lemmas.List.{map-append}
use Rattle.match_model.specs.Lists.{Each}
use Rattle.match_model.specs.Values.{MValue}
use Rattle.match_model.specs.Match.{ArmWays, is_empty_list, arm_matches, arm_covers, is_covered, IsExhaustive, comes_to, IsArmReachable, counting_ways, goes_through, comes_through, IsAlternativeReachable}
use Rattle.match_model.specs.ArenaUnreachable.{in_reading_order}
use Rattle.match_model.specs.Unreachable.{Entry, Listed, ListedFrom, no_arm, arm_is_reachable, arm_is_listed, IsUnreachableList}
use Rattle.match_model.specs.Witness.{MWitness}
use Rattle.match_model.specs.ExactCover.{IsExactCover}
use Rattle.pattern_rules.specs.ArenaForms.{in_reading}
use Rattle.pattern_laws.specs.JudgedLaws.{by_offset}
use Rattle.pattern_laws.proofs.Reading.{Rising}
use Rattle.pattern_laws.proofs.EntryOrder.{all_in, all_in_both, ordered_is, AreFrom, from_at, from_both, from_more, one_before, all_before}
use Rattle.pattern_laws.proofs.ReadingEntries.{offsets_of, HasChoice, listed_at, listed_rises, reordered}

-- the second arm is the first, named by offsets: the same values match, the same ways count, and its alternatives are
-- those of the first in reading order
pub record SameArm (D : MValue → Type 0) (x y : ArmWays) : Type 0 where
  pub guarded : x.guarded ≡ y.guarded
  pub matched : (v : MValue) → D v → is_empty_list (x.ways_of v) ≡ is_empty_list (y.ways_of v)
  pub at : x.at ≡ y.at
  pub id : y.id ≡ y.at
  pub through : (i a : ℕ) → HasChoice i a x.alternatives → (v : MValue) → D v →
      list_any (goes_through i) (counting_ways x.guarded (x.ways_of v))
      ≡ list_any (goes_through a) (counting_ways y.guarded (y.ways_of v))
  pub reading : in_reading x.alternatives ≡ y.alternatives
  pub rises : Rising (offsets_of (in_reading x.alternatives))

module _ (D : MValue → Type 0) where
  abbrev pub SameArms : List ArmWays → List ArmWays → Type 0
  SameArms xs ys = Each (SameArm D) xs ys

  matches_same : (x y : ArmWays) → SameArm D x y → (v : MValue) → D v → arm_matches v x ≡ arm_matches v y
  matches_same x y h v d = ap not (h.matched v d)

  covers_same : (x y : ArmWays) → SameArm D x y → (v : MValue) → D v → arm_covers v x ≡ arm_covers v y
  covers_same x y h v d =
      ap (λ b. not b && arm_matches v x) h.guarded ∙ ap (λ b. not y.guarded && b) (matches_same x y h v d)

  -- the same values are covered
  pub covered_same : (xs ys : List ArmWays) → SameArms xs ys → (v : MValue) → D v → is_covered xs v ≡ is_covered ys v
  covered_same [] [] h v d = refl
  covered_same [] (y ∷ ys) h v d = absurd h
  covered_same (x ∷ xs) [] h v d = absurd h
  covered_same (x ∷ xs) (y ∷ ys) h v d =
      ap (λ b. b || is_covered xs v) (covers_same x y h.0 v d)
      ∙ ap (λ b. arm_covers v y || b) (covered_same xs ys h.1 v d)

  -- the same values come to each
  comes_same : (xs ys : List ArmWays) → SameArms xs ys → (j : ℕ) (v : MValue) → D v → comes_to xs j v ≡ comes_to ys j v
  comes_same [] [] h j v d = refl
  comes_same [] (y ∷ ys) h j v d = absurd h
  comes_same (x ∷ xs) [] h j v d = absurd h
  comes_same (x ∷ xs) (y ∷ ys) h zero v d = matches_same x y h.0 v d
  comes_same (x ∷ xs) (y ∷ ys) h (suc j) v d =
      ap (λ b. not b && comes_to xs j v) (covers_same x y h.0 v d) ∙ ap (λ b. not (arm_covers v y) && b)
      (comes_same xs ys h.1 j v d)

  -- and through each alternative
  through_same : (xs ys : List ArmWays) → SameArms xs ys → (j : ℕ) (x : ArmWays) → slice_get xs j ≡ Some x →
      (i a : ℕ) → HasChoice i a x.alternatives → (v : MValue) → D v → comes_through xs j i v ≡ comes_through ys j a v
  through_same [] [] h j x e i a c v d = refl
  through_same [] (y ∷ ys) h j x e i a c v d = absurd h
  through_same (w ∷ xs) [] h j x e i a c v d = absurd h
  through_same (w ∷ xs) (y ∷ ys) h zero x e i a c v d =
      let same : w ≡ x = cc in
      h.0.through i a (subst (λ (z : ArmWays). HasChoice i a z.alternatives) (sym same) c) v d
  through_same (w ∷ xs) (y ∷ ys) h (suc j) x e i a c v d =
      ap (λ b. not b && comes_through xs j i v) (covers_same w y h.0 v d)
      ∙ ap (λ b. not (arm_covers v y) && b) (through_same xs ys h.1 j x e i a c v d)

  -- the same arms are reachable
  arm_there : (xs ys : List ArmWays) → SameArms xs ys → (j : ℕ) → IsArmReachable D xs j → IsArmReachable D ys j
  arm_there xs ys h j (v, d, c) = (v, d, sym (comes_same xs ys h j v d) ∙ c)

  arm_back : (xs ys : List ArmWays) → SameArms xs ys → (j : ℕ) → IsArmReachable D ys j → IsArmReachable D xs j
  arm_back xs ys h j (v, d, c) = (v, d, comes_same xs ys h j v d ∙ c)

  -- ---- what is exhaustive and what is left

  pub exhaustive_same : (xs ys : List ArmWays) → SameArms xs ys → IsExhaustive D xs → IsExhaustive D ys
  exhaustive_same xs ys h k v d n = sym (covered_same xs ys h v d) ∙ k v d n

  pub exhaustive_back : (xs ys : List ArmWays) → SameArms xs ys → IsExhaustive D ys → IsExhaustive D xs
  exhaustive_back xs ys h k v d n = covered_same xs ys h v d ∙ k v d n

  pub cover_same : (xs ys : List ArmWays) (ws : List MWitness) → SameArms xs ys → IsExactCover D xs ws →
      IsExactCover D ys ws
  cover_same xs ys ws h k = record {
    each_fitted = k.each_fitted;
    apart = k.apart;
    uncovered = λ v d n. (
      λ e. (k.uncovered v d n).0 (covered_same xs ys h v d ∙ e),
      λ w. sym (covered_same xs ys h v d) ∙ (k.uncovered v d n).1 w,
    );
    ascending = k.ascending;
  }

  -- ---- what is unreachable

  listed_from : (xs : List ArmWays) (j : ℕ) (rest : List ArmWays) (es : List Entry) → ListedFrom D xs j rest es →
      AreFrom j es
  listed_from xs j rest es (no_arm k) = tt
  listed_from xs j rest es (arm_is_reachable k x more fs gs r h l) =
      from_both k fs gs (from_at k (offsets_of x.alternatives) fs
      (listed_at (IsAlternativeReachable D xs k) k x.alternatives fs h))
      (from_more k gs (listed_from xs (suc k) more gs l))
  listed_from xs j rest es (arm_is_listed k x more gs r l) =
      (omega arith, from_more k gs (listed_from xs (suc k) more gs l))

  module _ (xs ys : List ArmWays) (h : SameArms xs ys) where
    -- these are the arms from this number on
    abbrev StandAt : ℕ → List ArmWays → Type 0
    StandAt j rest = (k : ℕ) (x : ArmWays) → slice_get rest k ≡ Some x → slice_get xs (j + k) ≡ Some x

    next_stands : (j : ℕ) (x : ArmWays) (rest : List ArmWays) → StandAt j (x ∷ rest) → StandAt (suc j) rest
    next_stands j x rest s k y e = ap (slice_get xs) (shift j k) ∙ s (suc k) y e
      where
        shift : (j k : ℕ) → suc j + k ≡ j + suc k
        shift j k = omega arith

    first_stands : (j : ℕ) (x : ArmWays) (rest : List ArmWays) → StandAt j (x ∷ rest) → slice_get xs j ≡ Some x
    first_stands j x rest s = ap (slice_get xs) (here j) ∙ s 0 x refl
      where
        here : (j : ℕ) → j ≡ j + 0
        here j = omega arith

    unreachable_from : (j : ℕ) (rest others : List ArmWays) → SameArms rest others → StandAt j rest →
        (es : List Entry) →
        ListedFrom D xs j rest es → ListedFrom D ys j others (in_reading_order (map by_offset es))
    unreachable_from j rest [] g s es (no_arm k) = no_arm k
    unreachable_from j rest (y ∷ others) g s es (no_arm k) = absurd g
    unreachable_from j rest [] g s es (arm_is_reachable k x more fs gs r l m) = absurd g
    unreachable_from j rest (y ∷ others) g s es (arm_is_reachable k x more fs gs r l m) =
        let there = first_stands k x more s in
        let set = reordered (IsAlternativeReachable D ys k) k (IsAlternativeReachable D xs k) x.alternatives fs l
        (λ i a c (v, d, t). (v, d, sym (through_same xs ys h k x there i a c v d) ∙ t))
        (λ i a c (v, d, t). (v, d, through_same xs ys h k x there i a c v d ∙ t)) g.0.rises in
        let behind = unreachable_from (suc k) more others g.1 (next_stands k x more s) gs m in
        let late = listed_from ys (suc k) others (in_reading_order (map by_offset gs)) behind in
        let order : in_reading_order (map by_offset (fs ++ gs)) ≡ set.out ++ in_reading_order (map by_offset gs) =
        ap in_reading_order (map-append by_offset fs gs)
        ∙ (ordered_is (map by_offset fs ++ map by_offset gs)
        ∙ (all_in_both (map by_offset fs) (map by_offset gs) []
        ∙ (ap (all_in (map by_offset fs)) (sym (ordered_is (map by_offset gs)))
        ∙ (set.same (in_reading_order (map by_offset gs))
        ∙ all_before k (offsets_of (in_reading x.alternatives)) set.out (in_reading_order (map by_offset gs))
        (listed_at (IsAlternativeReachable D ys k) k (in_reading x.alternatives) set.out set.listed)
        (listed_rises (IsAlternativeReachable D ys k) k (in_reading x.alternatives) set.out set.listed g.0.rises)
        late)))) in
        subst (ListedFrom D ys k (y ∷ others)) (sym order)
        (arm_is_reachable k y others set.out (in_reading_order (map by_offset gs)) (arm_there xs ys h k r)
        (subst (λ alts. Listed (IsAlternativeReachable D ys k) k alts set.out) g.0.reading set.listed) behind)
    unreachable_from j rest [] g s es (arm_is_listed k x more gs r m) = absurd g
    unreachable_from j rest (y ∷ others) g s es (arm_is_listed k x more gs r m) =
        let behind = unreachable_from (suc k) more others g.1 (next_stands k x more s) gs m in
        let late = listed_from ys (suc k) others (in_reading_order (map by_offset gs)) behind in
        let order : in_reading_order (map by_offset (record { arm = k; id = x.id; at = x.at; whole = true } ∷ gs))
        ≡ record { arm = k; id = x.at; at = x.at; whole = true } ∷ in_reading_order (map by_offset gs) =
        one_before k (record { arm = k; id = x.at; at = x.at; whole = true }) (in_reading_order (map by_offset gs))
        refl late in
        let named : record { arm = k; id = x.at; at = x.at; whole = true } ∷ in_reading_order (map by_offset gs)
        ≡ record { arm = k; id = y.id; at = y.at; whole = true } ∷ in_reading_order (map by_offset gs) =
        ap (λ n. record { arm = k; id = n; at = n; whole = true } ∷ in_reading_order (map by_offset gs)) g.0.at
        ∙ ap (λ n. record { arm = k; id = n; at = y.at; whole = true } ∷ in_reading_order (map by_offset gs))
        (sym g.0.id) in
        subst (ListedFrom D ys k (y ∷ others)) (sym (order ∙ named))
        (arm_is_listed k y others (in_reading_order (map by_offset gs)) (λ t. r (arm_back xs ys h k t)) behind)

    -- the list of what is unreachable, by offsets and in reading order
    pub unreachable_same : (es : List Entry) → IsUnreachableList D xs es →
        IsUnreachableList D ys (in_reading_order (map by_offset es))
    unreachable_same es u = unreachable_from 0 xs ys h (λ k x e. ap (slice_get xs) (zero_more k) ∙ e) es u
      where
        zero_more : (k : ℕ) → 0 + k ≡ k
        zero_more k = omega arith
