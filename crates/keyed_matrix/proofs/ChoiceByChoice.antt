-- Patterns taken apart, choice by choice.
use Rattle.std.proofs.Common.{◌≡◌, ℕ, List, [], ◌∷◌, ◌++◌, map, length, nat_lt, refl, ap, sym, ◌∙◌, true, false, arith, append_assoc, append-nil}
use Rattle.std.proofs.lemmas.List.{map-append}
use Rattle.match_model.specs.Constructors.{MCtor, OrCtor}
use Rattle.match_model.specs.ArenaPatterns.{MBound, MDePat, MDePats, no_de_pats, more_de_pats, de_pats_of, de_pats_list, uid_of}
use Rattle.match_model.specs.Rows.{Choice, choices_of, all_choices_of, choice_among, choice_through, with_binds, choices_by, is_or_ctor}
use Rattle.pattern_arena.specs.declared.pattern.DePat.{DePat, out-DePat}
use Rattle.pattern_arena.specs.Trees.{tree, placed_ctor, placed_subs, plain_bound}
use Rattle.pattern_arena.proofs.TreeFacts.{tree_out}
use Rattle.keyed_matrix.specs.Choosing.{choice_after, choices_after, choices_of_each}

-- a pattern that is no or-pattern
pub alone : {T : Type 0} (c : MCtor) (alternatives self : List (Choice T)) → is_or_ctor c ≡ false →
    choices_by c alternatives self ≡ self
alone OrCtor a s h = cc
alone _ a s h = refl

pub choices-other : {T : Type 0} (chosen : List ℕ) (binds : List MBound) (p : DePat T) → is_or_ctor (placed_ctor p) ≡ false →
    choices_after chosen binds (tree p) ≡ record { pat = tree p; chosen = chosen; binds = binds } ∷ []
choices-other chosen binds p h =
    rw (tree_out p, alone (placed_ctor p) _ _ h, append-nil chosen, append-nil binds) refl

is_or : (c : MCtor) → is_or_ctor c ≡ true → c ≡ OrCtor
is_or OrCtor h = refl
is_or _ h = cc

module _ {T : Type 0} (chosen : List ℕ) (before binds : List MBound) where
  step_many : (uid : ℕ) (c : Choice T) → choice_after chosen before (with_binds binds (choice_through uid c))
      ≡ choice_after (chosen ++ uid ∷ []) (before ++ binds) c
  step_many uid c = rw (append_assoc chosen (uid ∷ []) c.chosen, append_assoc before binds c.binds) refl

  step_one : (c : Choice T) → choice_after chosen before (with_binds binds c)
      ≡ choice_after (chosen ++ []) (before ++ binds) c
  step_one c = rw (append-nil chosen, append_assoc before binds c.binds) refl

  each_many : (uid : ℕ) (cs : List (Choice T)) →
      map (choice_after chosen before) (map (with_binds binds) (map (choice_through uid) cs))
      ≡ map (choice_after (chosen ++ uid ∷ []) (before ++ binds)) cs
  each_many uid [] = refl
  each_many uid (c ∷ cs) =
      ap (λ x. x ∷ map (choice_after chosen before) (map (with_binds binds) (map (choice_through uid) cs))) (step_many uid c)
      ∙ ap (λ xs. choice_after (chosen ++ uid ∷ []) (before ++ binds) c ∷ xs) (each_many uid cs)

  each_one : (cs : List (Choice T)) → map (choice_after chosen before) (map (with_binds binds) cs)
      ≡ map (choice_after (chosen ++ []) (before ++ binds)) cs
  each_one [] = refl
  each_one (c ∷ cs) =
      ap (λ x. x ∷ map (choice_after chosen before) (map (with_binds binds) cs)) (step_one c)
      ∙ ap (λ xs. choice_after (chosen ++ []) (before ++ binds) c ∷ xs) (each_one cs)

  many : (ps : MDePats T) →
      map (choice_after chosen before) (map (with_binds binds) (all_choices_of choice_through ps))
      ≡ choices_of_each chosen (before ++ binds) true (de_pats_list ps)
  many no_de_pats = refl
  many (more_de_pats p ps) =
      ap (map (choice_after chosen before)) (map-append (with_binds binds)
      (map (choice_through (uid_of p)) (choices_of p)) (all_choices_of choice_through ps))
      ∙ map-append (choice_after chosen before) (map (with_binds binds) (map (choice_through (uid_of p)) (choices_of p)))
      (map (with_binds binds) (all_choices_of choice_through ps))
      ∙ ap (λ xs. xs ++ map (choice_after chosen before) (map (with_binds binds) (all_choices_of choice_through ps)))
      (each_many (uid_of p) (choices_of p))
      ∙ ap (λ xs. choices_after (chosen ++ uid_of p ∷ []) (before ++ binds) p ++ xs) (many ps)

  same_choices : (cs : List (Choice T)) → map (λ c. c) cs ≡ cs
  same_choices [] = refl
  same_choices (c ∷ cs) = ap (λ xs. c ∷ xs) (same_choices cs)

  one : (p : MDePat T) →
      map (choice_after chosen before) (map (with_binds binds)
      (all_choices_of (choice_among (more_de_pats p no_de_pats)) (more_de_pats p no_de_pats)))
      ≡ choices_of_each chosen (before ++ binds) false (p ∷ [])
  one p =
      rw (append-nil (map (λ c. c) (choices_of p)), same_choices (choices_of p))
      (each_one (choices_of p) ∙ sym (append-nil (choices_after (chosen ++ []) (before ++ binds) p)))

-- the choices of an or-pattern, whatever they are
pub choices-or : {T : Type 0} (chosen : List ℕ) (before : List MBound) (p : DePat T) → is_or_ctor (placed_ctor p) ≡ true →
    choices_after chosen before (tree p)
    ≡ choices_of_each chosen (before ++ map plain_bound (out-DePat T p).form.now.binds.now)
    (nat_lt 1 (length (placed_subs p))) (map tree (placed_subs p))
choices-or {T} chosen before p h = rw (tree_out p, is_or (placed_ctor p) h) (go (placed_subs p))
  where
    listed : (ps : List (MDePat T)) → de_pats_list (de_pats_of ps) ≡ ps
    listed [] = refl
    listed (p ∷ ps) = ap (λ qs. p ∷ qs) (listed ps)

    several : (x y : DePat T) (ps : List (DePat T)) → nat_lt 1 (length (x ∷ y ∷ ps)) ≡ true
    several x y ps = grind arith

    go : (ps : List (DePat T)) →
        map (choice_after chosen before) (map (with_binds (map plain_bound (out-DePat T p).form.now.binds.now))
        (all_choices_of (choice_among (de_pats_of (map tree ps))) (de_pats_of (map tree ps))))
        ≡ choices_of_each chosen (before ++ map plain_bound (out-DePat T p).form.now.binds.now) (nat_lt 1 (length ps)) (map tree ps)
    go [] = refl
    go (x ∷ []) = one chosen before (map plain_bound (out-DePat T p).form.now.binds.now) (tree x)
    go (x ∷ y ∷ ps) =
        many chosen before (map plain_bound (out-DePat T p).form.now.binds.now) (de_pats_of (map tree (x ∷ y ∷ ps)))
        ∙ ap (choices_of_each chosen (before ++ map plain_bound (out-DePat T p).form.now.binds.now) true)
        (listed (map tree (x ∷ y ∷ ps)))
        ∙ sym (ap (λ b. choices_of_each chosen (before ++ map plain_bound (out-DePat T p).form.now.binds.now) b
        (map tree (x ∷ y ∷ ps))) (several x y ps))

-- nothing chosen before
pub after-nothing : {T : Type 0} (p : MDePat T) → choices_after [] [] p ≡ choices_of p
after-nothing {T} p = same (choices_of p)
  where
    same : (cs : List (Choice T)) → map (choice_after [] []) cs ≡ cs
    same [] = refl
    same (c ∷ cs) = ap (λ xs. c ∷ xs) (same cs)

pub ruleset choices = choices-other

pub ruleset choices_alone = after-nothing
