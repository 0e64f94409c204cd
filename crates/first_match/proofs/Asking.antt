-- What is selected looks at no more ways of an arm than its guard can be asked on.
use Rattle.std.proofs.Common.{◌≡◌, ◌<◌, ◌≤◌, ℕ, suc, ◌+◌, Bool, true, false, List, [], ◌∷◌, ◌++◌, map, length, take, drop, get_or, Option, Result, Ok, Err, IfOk, refl, sym, ap, ◌∙◌, append_assoc, arith}
use Rattle.std.proofs.lemmas.List.{append-nil, drop_all}
use Rattle.std.proofs.Math.Seq.{drop-cons}
use Rattle.match_model.specs.ArenaWays.{arena_arm, arena_ways}
use Rattle.match_model.specs.Select.{Asked, Missed, Outcome, Selected, Try, try_of, tries_from, also_asked, select_from}
use Rattle.match_model.specs.Values.{MValue}
use Rattle.match_model.specs.Ways.{Way, Binding}
use Rattle.pattern_arena.specs.declared.matches.CheckedArm.{CheckedArm}
use Rattle.pattern_arena.specs.Trees.{plain_arm, tree}
use Rattle.first_match.specs.declared.held.Ending.{Ending}
use Rattle.first_match.specs.Asking.{tries_binding, ways_asked, after_asking, ended_or}
use Rattle.first_match.specs.Bound.{bound_by}

-- of a way the names alone count
pub names_count : (j : ℕ) (guarded : Bool) (ws : List Way) (rest : List Try) (answers : List Bool) →
    select_from (map (try_of j guarded) ws ++ rest) answers
    ≡ select_from (tries_binding j guarded (bound_by ws) ++ rest) answers
names_count j guarded [] rest answers = refl
names_count j false (w ∷ ws) rest answers = refl
names_count j true (w ∷ ws) rest [] = refl
names_count j true (w ∷ ws) rest (true ∷ answers) = refl
names_count j true (w ∷ ws) rest (false ∷ answers) =
    ap (also_asked (record { arm = j; bindings = w.bindings })) (names_count j true ws rest answers)

-- without a guard the first way alone
pub first_counts : (j : ℕ) (bss : List (List Binding)) (rest : List Try) (answers : List Bool) →
    select_from (tries_binding j false (take 1 bss) ++ rest) answers
    ≡ select_from (tries_binding j false bss ++ rest) answers
first_counts j [] rest answers = refl
first_counts j (bs ∷ bss) rest answers = refl

-- with a guard those that it may be asked on
pub asked_count : (j : ℕ) (bss : List (List Binding)) (rest : List Try) (answers : List Bool) →
    select_from (tries_binding j true (take (ways_asked answers) bss) ++ rest) answers
    ≡ select_from (tries_binding j true bss ++ rest) answers
asked_count j [] rest [] = refl
asked_count j [] rest (true ∷ answers) = refl
asked_count j [] rest (false ∷ answers) = refl
asked_count j (bs ∷ bss) rest [] = refl
asked_count j (bs ∷ bss) rest (true ∷ answers) = refl
asked_count j (bs ∷ bss) rest (false ∷ answers) =
    ap (also_asked (record { arm = j; bindings = bs })) (asked_count j bss rest answers)

-- at least one
pub some_asked : (answers : List Bool) → 0 < ways_asked answers
some_asked [] = omega arith
some_asked (true ∷ answers) = omega arith
some_asked (false ∷ answers) = omega arith

-- a guard that is asked after others
pub asked_after : (asked : List Asked) (a : Asked) (s : Selected) →
    after_asking (asked ++ a ∷ []) s ≡ after_asking asked (also_asked a s)
asked_after asked a s =
    ap (λ (gs : List Asked). record { asked = gs; outcome = s.outcome }) (append_assoc asked (a ∷ []) s.asked)

-- no other guard is asked
pub none_after : (asked : List Asked) (o : Outcome) →
    record { asked = asked; outcome = o } ≡ after_asking asked (record { asked = []; outcome = o })
none_after asked o = ap (λ (gs : List Asked). record { asked = gs; outcome = o }) (sym (append-nil asked))

-- ---- arms

-- an arm without a guard
pub tried_first : {E : Type 0} (r : Result (Option Ending) E) (j : ℕ) (guarded : Bool) (ws : List Way) (bss : List (List Binding))
    (asked : List Asked) (answers : List Bool) → guarded ≡ false → bss ≡ take 1 (bound_by ws) →
    IfOk r (λ o. (gs : List Asked) → (left : List Bool) → (rest : List Try) →
    ended_or o gs (select_from rest left) ≡ after_asking gs (select_from (tries_binding j false bss ++ rest) left)) →
    IfOk r (λ o. (rest : List Try) →
    ended_or o asked (select_from rest answers) ≡ after_asking asked (select_from (map (try_of j guarded) ws ++ rest) answers))
tried_first (Err x) j guarded ws bss asked answers g e h = tt
tried_first (Ok o) j guarded ws bss asked answers g e h = λ rest.
    h asked answers rest
    ∙ ap (after_asking asked)
    (ap (λ (l : List (List Binding)). select_from (tries_binding j false l ++ rest) answers) e
    ∙ first_counts j (bound_by ws) rest answers
    ∙ sym (names_count j false ws rest answers)
    ∙ ap (λ (b : Bool). select_from (map (try_of j b) ws ++ rest) answers) (sym g))

-- an arm with a guard
pub tried_guarded : {E : Type 0} (r : Result (Option Ending) E) (j : ℕ) (guarded : Bool) (ws : List Way) (bss : List (List Binding))
    (most : ℕ) (old new : List Asked) (answers left : List Bool) → guarded ≡ true → most ≡ ways_asked answers →
    bss ≡ take most (bound_by ws) →
    IfOk r (λ o. (rest : List Try) →
    ended_or o new (select_from rest left) ≡ after_asking old (select_from (tries_binding j true bss ++ rest) answers)) →
    IfOk r (λ o. (rest : List Try) →
    ended_or o new (select_from rest left) ≡ after_asking old (select_from (map (try_of j guarded) ws ++ rest) answers))
tried_guarded (Err x) j guarded ws bss most old new answers left g m e h = tt
tried_guarded (Ok o) j guarded ws bss most old new answers left g m e h = λ rest.
    h rest
    ∙ ap (after_asking old)
    (ap (λ (l : List (List Binding)). select_from (tries_binding j true l ++ rest) answers)
    (e ∙ ap (λ (n : ℕ). take n (bound_by ws)) m)
    ∙ asked_count j (bound_by ws) rest answers
    ∙ sym (names_count j true ws rest answers)
    ∙ ap (λ (b : Bool). select_from (map (try_of j b) ws ++ rest) answers) (sym g))

-- the arms from one on
module _ {T : Type 0} (arms : List (CheckedArm T)) (v : MValue) where
  abbrev pub From : ℕ → List Try
  From i = tries_from i (map arena_arm (map plain_arm (drop i arms))) v

  one_arm : (i : ℕ) (a : CheckedArm T) → i < length arms → a ≡ get_or arms i a →
      map (try_of i a.guarded) (arena_ways (tree a.pat) v) ++ From (i + 1) ≡ From i
  one_arm i a h at =
      let next : i + 1 ≡ suc i = omega arith in
      ap (λ (n : ℕ). map (try_of i a.guarded) (arena_ways (tree a.pat) v) ++ From n) next
      ∙ ap (λ l. tries_from i (map arena_arm (map plain_arm l)) v)
      (ap (λ b. b ∷ drop (suc i) arms) at ∙ sym (drop-cons arms i a h))

  pub one_more_arm : (i : ℕ) (a : CheckedArm T) (j : ℕ) (old new : List Asked) (answers left : List Bool) (o : Option Ending)
      (all : Selected) → i < length arms → a ≡ get_or arms i a → j ≡ i →
      after_asking old (select_from (From i) answers) ≡ all →
      ((rest : List Try) → ended_or o new (select_from rest left)
      ≡ after_asking old (select_from (map (try_of j a.guarded) (arena_ways (tree a.pat) v) ++ rest) answers)) →
      ended_or o new (select_from (From (i + 1)) left) ≡ all
  one_more_arm i a j old new answers left o all h at is e k =
      k (From (i + 1))
      ∙ ap (λ (n : ℕ). after_asking old (select_from (map (try_of n a.guarded) (arena_ways (tree a.pat) v) ++ From (i + 1)) answers)) is
      ∙ ap (λ (ts : List Try). after_asking old (select_from ts answers)) (one_arm i a h at)
      ∙ e

  pub no_more_arms : (i : ℕ) (asked : List Asked) (answers : List Bool) (all : Selected) → length arms ≤ i →
      after_asking asked (select_from (From i) answers) ≡ all → record { asked = asked; outcome = Missed } ≡ all
  no_more_arms i asked answers all h e =
      none_after asked Missed
      ∙ sym (ap (λ l. after_asking asked (select_from (tries_from i (map arena_arm (map plain_arm l)) v) answers)) (drop_all i arms h))
      ∙ e
