-- A walk over a pattern finds what is left of its alternatives.
use Rattle.std.proofs.Common.{◌≡◌, ◌<◌, ℕ, zero, suc, take, Bool, true, false, not, ◌&&◌, cond, List, [], ◌∷◌, ◌++◌, map, length, nat_lt, get_or, refl, sym, ap, ◌∙◌, arith, append_assoc, append-nil}
use Rattle.match_model.specs.Constructors.{MCtor, OrCtor}
use Rattle.match_model.specs.ArenaPatterns.{MDePat, MDePats, no_de_pats, more_de_pats, de_pats_of, de_pats_list, uid_of, at_of}
use Rattle.match_model.specs.ArenaWays.{arena_alternatives, alternatives_in_subs, choices_in, alternatives_by_ctor}
use Rattle.match_model.specs.Match.{Alternatives, no_alternative, alternative, and_others}
use Rattle.match_model.specs.Rows.{is_or_ctor}
use Rattle.pattern_arena.specs.declared.pattern.DePat.{DePat, out-DePat}
use Rattle.pattern_arena.specs.Trees.{tree, placed_ctor, placed_subs}
use Rattle.pattern_arena.proofs.TreeFacts.{tree_out}
use Rattle.pattern_matrix.specs.ReachLaws.{left_in}
use Rattle.witness_search.specs.Entries.{left_of_one, left_of_each}

module _ (f : ℕ → Bool) (j : ℕ) where
  left-both : (xs bs : Alternatives) → left_in f j (and_others xs bs) ≡ left_in f j xs ++ left_in f j bs
  left-both no_alternative bs = refl
  left-both (alternative id at inside others) bs =
      let one = cond (f id) (left_in f j inside) (record { arm = j; id = id; at = at; whole = false } ∷ []) in
      ap (λ ys. one ++ ys) (left-both others bs) ∙ sym (append_assoc one (left_in f j others) (left_in f j bs))

  left-inside : {T : Type 0} (ps : MDePats T) → left_in f j (alternatives_in_subs ps) ≡ left_of_each f j false (de_pats_list ps)
  left-inside no_de_pats = refl
  left-inside (more_de_pats p ps) =
      left-both (arena_alternatives p) (alternatives_in_subs ps) ∙ ap (λ xs. left_in f j (arena_alternatives p) ++ xs) (left-inside ps)

  one_choice : {T : Type 0} (p : MDePat T) (b : Bool) →
      cond b (left_in f j (arena_alternatives p)) (record { arm = j; id = uid_of p; at = at_of p; whole = false } ∷ [])
      ≡ cond (not b) (record { arm = j; id = uid_of p; at = at_of p; whole = false } ∷ []) (left_in f j (arena_alternatives p))
  one_choice p true = refl
  one_choice p false = refl

  left-choices : {T : Type 0} (ps : MDePats T) → left_in f j (choices_in ps) ≡ left_of_each f j true (de_pats_list ps)
  left-choices no_de_pats = refl
  left-choices (more_de_pats p ps) =
      ap (λ xs. xs ++ left_in f j (choices_in ps)) (one_choice p (f (uid_of p))) ∙ ap (λ xs. left_of_one f j true p ++ xs) (left-choices ps)

  left-other : {T : Type 0} (c : MCtor) (subs : MDePats T) → is_or_ctor c ≡ false →
      left_in f j (alternatives_by_ctor c subs (choices_in subs) (alternatives_in_subs subs)) ≡ left_of_each f j false (de_pats_list subs)
  left-other OrCtor subs e = cc
  left-other _ subs e = left-inside subs

  left-or : {T : Type 0} (ps : List (MDePat T)) →
      left_in f j (alternatives_by_ctor OrCtor (de_pats_of ps) (choices_in (de_pats_of ps)) (alternatives_in_subs (de_pats_of ps))) ≡ left_of_each f j (nat_lt 1 (length ps)) ps
  left-or [] = refl
  left-or (p ∷ []) = left-inside (more_de_pats p no_de_pats)
  left-or (p ∷ q ∷ ps) =
      left-choices (de_pats_of (p ∷ q ∷ ps)) ∙ ap (left_of_each f j true) (listed (p ∷ q ∷ ps)) ∙ sym (ap (λ b. left_of_each f j b (p ∷ q ∷ ps)) (several p q ps))
    where
      listed : {T : Type 0} (ps : List (MDePat T)) → de_pats_list (de_pats_of ps) ≡ ps
      listed [] = refl
      listed (p ∷ ps) = ap (λ qs. p ∷ qs) (listed ps)

      several : {T : Type 0} (x y : MDePat T) (ps : List (MDePat T)) → nat_lt 1 (length (x ∷ y ∷ ps)) ≡ true
      several x y ps = grind arith

listed : {T : Type 0} (ps : List (MDePat T)) → de_pats_list (de_pats_of ps) ≡ ps
listed [] = refl
listed (p ∷ ps) = ap (λ qs. p ∷ qs) (listed ps)

length-trees : {T : Type 0} (ps : List (DePat T)) → length (map tree ps) ≡ length ps
length-trees [] = refl
length-trees (p ∷ ps) = ap suc (length-trees ps)

-- what is left of a pattern, by what stands below it
pub left-below : {T : Type 0} (f : ℕ → Bool) (j : ℕ) (p : DePat T) (chosen : Bool) → chosen ≡ (is_or_ctor (placed_ctor p) && nat_lt 1 (length (placed_subs p))) →
    left_in f j (arena_alternatives (tree p)) ≡ left_of_each f j chosen (map tree (placed_subs p))
left-below {T = T} f j p chosen e = rw (tree_out p) (go (placed_ctor p) (is_or_ctor (placed_ctor p)) refl e)
  where
    subs : List (MDePat T)
    subs = map tree (placed_subs p)

    is_or : (c : MCtor) → is_or_ctor c ≡ true → c ≡ OrCtor
    is_or OrCtor h = refl
    is_or _ h = cc

    go : (c : MCtor) (b : Bool) → is_or_ctor c ≡ b → chosen ≡ (is_or_ctor c && nat_lt 1 (length (placed_subs p))) →
        left_in f j (alternatives_by_ctor c (de_pats_of subs) (choices_in (de_pats_of subs)) (alternatives_in_subs (de_pats_of subs))) ≡ left_of_each f j chosen subs
    go c true h k =
        ap (λ x. left_in f j (alternatives_by_ctor x (de_pats_of subs) (choices_in (de_pats_of subs)) (alternatives_in_subs (de_pats_of subs)))) (is_or c h)
        ∙ left-or f j subs
        ∙ ap (λ n. left_of_each f j (nat_lt 1 n) subs) (length-trees (placed_subs p))
        ∙ sym (ap (λ b. left_of_each f j b subs) (k ∙ ap (λ b. b && nat_lt 1 (length (placed_subs p))) h))
    go c false h k =
        left-other f j c (de_pats_of subs) h ∙ ap (left_of_each f j false) (listed subs)
        ∙ sym (ap (λ b. left_of_each f j b subs) (k ∙ ap (λ b. b && nat_lt 1 (length (placed_subs p))) h))

-- nothing is left of a pattern with none below it
pub left-none : {T : Type 0} (f : ℕ → Bool) (j : ℕ) (p : DePat T) → length (placed_subs p) ≡ 0 → left_in f j (arena_alternatives (tree p)) ≡ []
left-none {T} f j p e = left-below f j p chosen refl ∙ none (placed_subs p) e
  where
    chosen : Bool
    chosen = is_or_ctor (placed_ctor p) && nat_lt 1 (length (placed_subs p))

    none : (ps : List (DePat T)) → length ps ≡ 0 → left_of_each f j chosen (map tree ps) ≡ []
    none [] k = refl
    none (x ∷ xs) k = absurd (omega (arith, k))

-- what is left of one pattern, by what it is placed with
pub left-one : {T : Type 0} (f : ℕ → Bool) (j : ℕ) (chosen : Bool) (q : DePat T) →
    left_of_one f j chosen (tree q)
    ≡ cond (chosen && not (f (out-DePat T q).uid)) (record { arm = j; id = (out-DePat T q).uid; at = (out-DePat T q).at; whole = false } ∷ []) (left_in f j (arena_alternatives (tree q)))
left-one {T} f j chosen q =
    ap (λ p. cond (chosen && not (f (uid_of p))) (record { arm = j; id = uid_of p; at = at_of p; whole = false } ∷ []) (left_in f j (arena_alternatives (tree q)))) (tree_out q)

-- one more of the patterns below
pub each_more : {T : Type 0} (f : ℕ → Bool) (j : ℕ) (chosen : Bool) (subs : List (DePat T)) (i : ℕ) (q : DePat T) → i < length subs → q ≡ get_or subs i q →
    left_of_each f j chosen (map tree (take (suc i) subs)) ≡ left_of_each f j chosen (map tree (take i subs)) ++ left_of_one f j chosen (tree q)
each_more f j chosen [] i q l is = absurd (omega (arith, l))
each_more f j chosen (x ∷ xs) zero q l is = append-nil (left_of_one f j chosen (tree x)) ∙ ap (λ y. left_of_one f j chosen (tree y)) (sym is)
each_more f j chosen (x ∷ xs) (suc i) q l is =
    ap (λ ys. left_of_one f j chosen (tree x) ++ ys) (each_more f j chosen xs i q (omega (arith, l)) is)
    ∙ sym (append_assoc (left_of_one f j chosen (tree x)) (left_of_each f j chosen (map tree (take i xs))) (left_of_one f j chosen (tree q)))

pub ruleset walks = (left-below, left-none, left-one)
