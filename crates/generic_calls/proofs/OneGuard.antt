-- The tree with one guard is defined on every value and goes forward; each walk through it ends by the first answer.
use Rattle.std.proofs.Common.{◌≡◌, ℕ, zero, suc, ◌<◌, Bool, true, false, List, [], ◌∷◌, length, Some, slice_get, get_or, refl, sym, ap, ◌∙◌, subst, arith, lit<}
use Rattle.std.specs.Prelude.{IsTrue}
use Rattle.std.specs.List.{Contains}
use Rattle.match_model.specs.Values.{MValue}
use Rattle.match_model.specs.Select as selecting
use Rattle.match_model.specs.Select.{Took, Missed, Short}
use Rattle.match_model.specs.Ways.{Binding}
use Rattle.match_model.specs.Places.{MStep}
use Rattle.match_model.specs.Trees.{MBind, MBranch, SwitchNode, AskNode, MissNode, successors, IsForward, Visit, root, GoesOn, by_case, by_refusal, ComesTo, at_once, after, outcome_at, EndsIn, is_sound, IsDefinedOn}
use Rattle.match_model.proofs.OneMeaning.{one_walk}
use Rattle.tree_runs.specs.declared.run.Outcome.{Outcome}
use Rattle.tree_runs.specs.declared.run.Outcome.TheVariants as run
use Rattle.tree_runs.specs.Runs.{told, IsRun, AreAsked}
use Rattle.generic_calls.specs.OneGuard.{one_guard, end_by, asked_by}

no_switch : (n : ℕ) (place : List MStep) (branches : List MBranch) →
    slice_get one_guard n ≡ Some (SwitchNode place branches) → ⊥
no_switch zero place branches e = cc
no_switch (suc zero) place branches e = cc
no_switch (suc (suc n)) place branches e = cc

refused_at : (n arm next : ℕ) (binds : List MBind) → slice_get one_guard n ≡ Some (AskNode arm binds next) → next ≡ 1
refused_at zero arm next binds e = cc
refused_at (suc zero) arm next binds e = absurd cc
refused_at (suc (suc n)) arm next binds e = absurd cc

the_one : (m k : ℕ) → k < 1 → get_or (1 ∷ []) k m ≡ m → 0 < m
the_one m zero h e = omega arith
the_one m (suc k) h e = absurd (omega arith)

pub guard_forward : IsForward one_guard
guard_forward zero m x e c =
    let same : AskNode 0 [] 1 ≡ x = cc in
    let d = subst (λ y. Contains (successors y) m) (sym same) c in
    the_one m d.0 d.1 d.2
guard_forward (suc zero) m x e c =
    let same : MissNode ≡ x = cc in
    let d = subst (λ y. Contains (successors y) m) (sym same) c in
    let none : d.0 < 0 = d.1 in
    absurd (omega arith)
guard_forward (suc (suc n)) m x e c = absurd cc

-- an arm is taken at the guard alone
taken_at : (n : ℕ) (v : MValue) (left : List Bool) (arm : ℕ) (bindings : List Binding) →
    outcome_at (slice_get one_guard n) v left ≡ Some (Took arm bindings) → n ≡ 0
taken_at zero v left arm bindings e = refl
taken_at (suc zero) v left arm bindings e = absurd cc
taken_at (suc (suc n)) v left arm bindings e = absurd cc

-- how a walk with these answers ends
abbrev outcome_by : List Bool → selecting.Outcome
outcome_by [] = Short
outcome_by (true ∷ _) = Took 0 []
outcome_by (false ∷ _) = Missed

module _ (v : MValue) where
  stays_small : (a b : Visit) → GoesOn one_guard v a b → b.node < 2
  stays_small _ _ (by_case n left refused place branches b e f) = absurd (no_switch n place branches e)
  stays_small _ _ (by_refusal n left refused arm binds next e) =
      let one : next ≡ 1 = refused_at n arm next binds e in
      omega arith

  small : (a b : Visit) → ComesTo one_guard v a b → a.node < 2 → b.node < 2
  small _ _ (at_once a) h = h
  small _ _ (after a b c g w) h = small b c w (stays_small a b g)

  sound : (n : ℕ) → n < 2 → IsTrue (is_sound v (slice_get one_guard n))
  sound zero h = refl
  sound (suc zero) h = refl
  sound (suc (suc n)) h = absurd (omega arith)

  pub guard_defined : IsDefinedOn one_guard v
  guard_defined answers a w = sound a.node (small (root answers) a w (lit< tt))

  -- the walk with these answers
  walk_by : (answers : List Bool) → EndsIn one_guard v answers (asked_by answers) (outcome_by answers)
  walk_by [] = record { last = root []; comes = at_once (root []); ends = refl; asks = refl }
  walk_by (true ∷ left) = record {
    last = root (true ∷ left);
    comes = at_once (root (true ∷ left));
    ends = refl;
    asks = refl;
  }
  walk_by (false ∷ left) = record {
    last = record { node = 1; left = left; refused = 0 ∷ [] };
    comes = after (root (false ∷ left)) (record { node = 1; left = left; refused = 0 ∷ [] })
        (record { node = 1; left = left; refused = 0 ∷ [] }) (by_refusal 0 left [] 0 [] 1 refl)
        (at_once (record { node = 1; left = left; refused = 0 ∷ [] }));
    ends = refl;
    asks = refl;
  }

  -- the end is told by what comes of the first answer
  told_by : (answers left : List Bool) (n : ℕ) → outcome_at (slice_get one_guard n) v left ≡ Some (outcome_by answers) →
      told (outcome_by answers) n (length (asked_by answers)) ≡ end_by answers
  told_by [] left n e = refl
  told_by (true ∷ _) left n e = ap (λ m. run.Took m 1) (taken_at n v left 0 [] e)
  told_by (false ∷ _) left n e = refl

  pub guard_ends : (answers : List Bool) (o : Outcome) → IsRun one_guard v answers o → o ≡ end_by answers
  guard_ends answers o r =
      let one = one_walk one_guard v answers r.asked_nodes (asked_by answers) r.outcome (outcome_by answers) r.walk
      (walk_by answers) in
      let n = r.walk.last.node in
      let left = r.walk.last.left in
      sym r.is ∙ ap (λ p. told p n (length r.asked_nodes)) one.1
      ∙ ap (λ ns. told (outcome_by answers) n (length ns)) one.0
      ∙ told_by answers left n (r.walk.ends ∙ ap (λ p. Some p) one.1)

  pub guard_asks : (answers : List Bool) (ns : List ℕ) → AreAsked one_guard v answers ns → ns ≡ asked_by answers
  guard_asks answers ns a = (one_walk one_guard v answers ns (asked_by answers) a.outcome (outcome_by answers) a.walk
      (walk_by answers)).0
