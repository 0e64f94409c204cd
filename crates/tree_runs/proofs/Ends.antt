-- How a walk ends at a node.
use Rattle.std.proofs.Common.{◌≡◌, ◌⊎◌, inl, inr, ℕ, suc, ◌+◌, Bool, true, List, [], ◌∷◌, ◌++◌, drop, Option, Some, None, slice_get, refl, sym, ap, ◌∙◌}
use Rattle.std.proofs.lemmas.List.{length-append}
use Rattle.match_model.specs.Values.{MValue}
use Rattle.match_model.specs.Select as selecting
use Rattle.match_model.specs.Select.{Took, Missed, Short}
use Rattle.match_model.specs.Trees.{MNode, AskNode, TakeNode, MissNode, VoidNode, bindings_in, outcome_at, answered, EndsIn}
use Rattle.tree_runs.specs.declared.run.Outcome.TheVariants as run
use Rattle.tree_runs.specs.Runs.{IsRun, AreAsked}
use Rattle.tree_runs.specs.Turns.{IsAnswered, TakesAlone}
use Rattle.tree_runs.proofs.Stops.{stop, IsAt, rest_at, none_left}

module _ (nodes : List MNode) (v : MValue) (answers : List Bool) (n used : ℕ) (refused : List ℕ)
    (at : IsAt nodes v answers n used refused) where
  -- the walk ends at this stop
  abbrev ends_here : (asked : List ℕ) (o : selecting.Outcome) →
      outcome_at (slice_get nodes n) v (drop used answers) ≡ Some o →
      answered (slice_get nodes n) n (drop used answers) refused ≡ asked → EndsIn nodes v answers asked o
  ends_here asked o e a = record { last = stop answers n used refused; comes = at.comes; ends = e; asks = a }

  module _ (x : MNode) (there : slice_get nodes n ≡ Some x) where
    -- a guard takes its arm
    module _ (answer : Option Bool) (is : answer ≡ slice_get answers used) (g : IsAnswered x answer (Some true)) where
      granted_node : slice_get nodes n ≡ Some (AskNode g.arm g.binds g.refused)
      granted_node = there ∙ ap (λ y. Some y) g.node

      granted_left : drop used answers ≡ true ∷ drop (suc used) answers
      granted_left = rest_at answers used true (sym is ∙ g.gets)

      granted_ends : outcome_at (slice_get nodes n) v (drop used answers) ≡ Some (Took g.arm (bindings_in v g.binds))
      granted_ends = rw (granted_node, granted_left) refl

      granted_asks : answered (slice_get nodes n) n (drop used answers) refused ≡ refused ++ n ∷ []
      granted_asks = rw (granted_node, granted_left) refl

      pub run_granted : IsRun nodes v answers (run.Took n (used + 1))
      run_granted = record {
        asked_nodes = refused ++ n ∷ [];
        outcome = Took g.arm (bindings_in v g.binds);
        walk = ends_here (refused ++ n ∷ []) (Took g.arm (bindings_in v g.binds)) granted_ends granted_asks;
        is = ap (λ m. run.Took n m) (length-append refused (n ∷ []) ∙ ap (λ m. m + 1) at.count);
      }

      pub asked_granted : AreAsked nodes v answers (refused ++ n ∷ [])
      asked_granted = record {
        outcome = Took g.arm (bindings_in v g.binds);
        walk = ends_here (refused ++ n ∷ []) (Took g.arm (bindings_in v g.binds)) granted_ends granted_asks;
      }

    -- an arm is taken that has no guard
    module _ (g : TakesAlone x) where
      taken_node : slice_get nodes n ≡ Some (TakeNode g.arm g.binds)
      taken_node = there ∙ ap (λ y. Some y) g.node

      taken_ends : outcome_at (slice_get nodes n) v (drop used answers) ≡ Some (Took g.arm (bindings_in v g.binds))
      taken_ends = rw taken_node refl

      taken_asks : answered (slice_get nodes n) n (drop used answers) refused ≡ refused
      taken_asks = rw taken_node refl

      pub run_taken : IsRun nodes v answers (run.Took n used)
      run_taken = record {
        asked_nodes = refused;
        outcome = Took g.arm (bindings_in v g.binds);
        walk = ends_here refused (Took g.arm (bindings_in v g.binds)) taken_ends taken_asks;
        is = ap (λ m. run.Took n m) at.count;
      }

      pub asked_taken : AreAsked nodes v answers refused
      asked_taken = record {
        outcome = Took g.arm (bindings_in v g.binds);
        walk = ends_here refused (Took g.arm (bindings_in v g.binds)) taken_ends taken_asks;
      }

    -- no arm is left, or there is no value
    module _ (g : (x ≡ MissNode) ⊎ (x ≡ VoidNode)) where
      missed_ends : outcome_at (slice_get nodes n) v (drop used answers) ≡ Some Missed
      missed_ends = go g
        where
          go : (x ≡ MissNode) ⊎ (x ≡ VoidNode) → outcome_at (slice_get nodes n) v (drop used answers) ≡ Some Missed
          go (inl e) = rw (there, e) refl
          go (inr e) = rw (there, e) refl

      missed_asks : answered (slice_get nodes n) n (drop used answers) refused ≡ refused
      missed_asks = go g
        where
          go : (x ≡ MissNode) ⊎ (x ≡ VoidNode) → answered (slice_get nodes n) n (drop used answers) refused ≡ refused
          go (inl e) = rw (there, e) refl
          go (inr e) = rw (there, e) refl

      pub run_missed : IsRun nodes v answers (run.Missed used)
      run_missed = record {
        asked_nodes = refused;
        outcome = Missed;
        walk = ends_here refused Missed missed_ends missed_asks;
        is = ap (λ m. run.Missed m) at.count;
      }

      pub asked_missed : AreAsked nodes v answers refused
      asked_missed = record { outcome = Missed; walk = ends_here refused Missed missed_ends missed_asks }

    -- a guard has no answer
    module _ (answer : Option Bool) (is : answer ≡ slice_get answers used) (g : IsAnswered x answer None) where
      short_node : slice_get nodes n ≡ Some (AskNode g.arm g.binds g.refused)
      short_node = there ∙ ap (λ y. Some y) g.node

      short_left : drop used answers ≡ []
      short_left = none_left answers used (sym is ∙ g.gets)

      short_ends : outcome_at (slice_get nodes n) v (drop used answers) ≡ Some Short
      short_ends = rw (short_node, short_left) refl

      short_asks : answered (slice_get nodes n) n (drop used answers) refused ≡ refused
      short_asks = rw (short_node, short_left) refl

      pub run_short : IsRun nodes v answers (run.Short used)
      run_short = record {
        asked_nodes = refused;
        outcome = Short;
        walk = ends_here refused Short short_ends short_asks;
        is = ap (λ m. run.Short m) at.count;
      }

      pub asked_short : AreAsked nodes v answers refused
      asked_short = record { outcome = Short; walk = ends_here refused Short short_ends short_asks }
