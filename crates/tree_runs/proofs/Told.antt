-- What runs tell of a tree is what it means.
use Rattle.std.proofs.Common.{◌≡◌, ℕ, Bool, true, false, List, [], ◌∷◌, ◌++◌, length, Option, Some, None, slice_get, refl, sym, ap, ◌∙◌, subst}
use Rattle.match_model.specs.Values.{MValue}
use Rattle.match_model.specs.Lists.{Every, Each}
use Rattle.match_model.specs.Select as selecting
use Rattle.match_model.specs.Select.{Asked, Selected, Took, Missed, Short}
use Rattle.match_model.specs.Ways.{Binding}
use Rattle.match_model.specs.Trees.{MBind, MNode, SwitchNode, AskNode, TakeNode, MissNode, VoidNode, bindings_in, asked_at, Visit, root, GoesOn, by_case, by_refusal, ComesTo, at_once, after, outcome_at, answered, guard_at, guards_at, EndsIn, Means}
use Rattle.match_model.proofs.OneMeaning.{one_walk}
use Rattle.tree_runs.specs.declared.run.Outcome.{Outcome}
use Rattle.tree_runs.specs.Held.{arm_at, binds_at}
use Rattle.tree_runs.specs.Runs.{told, IsRun, AreAsked}
use Rattle.tree_runs.specs.Laws.{Tells, IsAskedAt}

-- an arm that is taken at a node is the node's, with its bindings
abbrev IsTakenBy : Option MNode → MValue → selecting.Outcome → Type 0
IsTakenBy x v o = (arm : ℕ) × (arm_at x ≡ Some arm) × (o ≡ Took arm (bindings_in v (binds_at x)))

same_took : (arm : ℕ) (binds : List MBind) (v : MValue) (b : ℕ) (bs : List Binding) →
    Some (Took arm (bindings_in v binds)) ≡ Some (Took b bs) → Took b bs ≡ Took arm (bindings_in v binds)
same_took arm binds v b bs e = cc

taken_by : (x : Option MNode) (v : MValue) (left : List Bool) (b : ℕ) (bs : List Binding) →
    outcome_at x v left ≡ Some (Took b bs) → IsTakenBy x v (Took b bs)
taken_by (Some (SwitchNode place branches)) v left b bs e = absurd cc
taken_by (Some (AskNode arm binds refused)) v [] b bs e = absurd cc
taken_by (Some (AskNode arm binds refused)) v (true ∷ left) b bs e = (arm, refl, same_took arm binds v b bs e)
taken_by (Some (AskNode arm binds refused)) v (false ∷ left) b bs e = absurd cc
taken_by (Some (TakeNode arm binds)) v left b bs e = (arm, refl, same_took arm binds v b bs e)
taken_by (Some MissNode) v left b bs e = absurd cc
taken_by (Some VoidNode) v left b bs e = absurd cc
taken_by None v left b bs e = absurd cc

module _ (nodes : List MNode) (v : MValue) where
  tells_own : (o : selecting.Outcome) (n used : ℕ) (left : List Bool) → outcome_at (slice_get nodes n) v left ≡ Some o →
      Tells nodes v (told o n used) o
  tells_own (Took arm bindings) n used left e = taken_by (slice_get nodes n) v left arm bindings e
  tells_own Missed n used left e = refl
  tells_own Short n used left e = refl

  pub runs_end : (answers : List Bool) (s : Selected) (o : Outcome) → Means nodes v answers s →
      IsRun nodes v answers o →
      Tells nodes v o s.outcome
  runs_end answers s o m r =
      let one = one_walk nodes v answers m.asked_nodes r.asked_nodes s.outcome r.outcome m.walk r.walk in
      let own : Tells nodes v (told r.outcome r.walk.last.node (length r.asked_nodes)) r.outcome =
      tells_own r.outcome r.walk.last.node (length r.asked_nodes) r.walk.last.left r.walk.ends in
      let here : Tells nodes v o r.outcome = subst (λ p. Tells nodes v p r.outcome) r.is own in
      subst (λ p. Tells nodes v o p) (sym one.1) here

  -- a guard stands at the node
  record IsGuard (n : ℕ) : Type 0 where
    arm : ℕ
    binds : List MBind
    refused : ℕ
    there : slice_get nodes n ≡ Some (AskNode arm binds refused)

  one_more : (ns : List ℕ) (n : ℕ) → Every IsGuard ns → IsGuard n → Every IsGuard (ns ++ n ∷ [])
  one_more [] n e g = (g, tt)
  one_more (m ∷ ns) n e g = (e.0, one_more ns n e.1 g)

  all_guards : (a b : Visit) → ComesTo nodes v a b → Every IsGuard a.refused → Every IsGuard b.refused
  all_guards _ _ (at_once a) e = e
  all_guards _ _ (after a b c g w) e = all_guards b c w (on a b g e)
    where
      on : (x y : Visit) → GoesOn nodes v x y → Every IsGuard x.refused → Every IsGuard y.refused
      on _ _ (by_case n left refused place branches d p q) f = f
      on _ _ (by_refusal n left refused arm binds next p) f =
          one_more refused n f (record { arm = arm; binds = binds; refused = next; there = p })

  also_last : (x : Option MNode) (n : ℕ) (left : List Bool) (refused : List ℕ) → slice_get nodes n ≡ x →
      Every IsGuard refused →
      Every IsGuard (answered x n left refused)
  also_last (Some (AskNode arm binds next)) n (answer ∷ left) refused e f =
      one_more refused n f (record { arm = arm; binds = binds; refused = next; there = e })
  also_last (Some (AskNode arm binds next)) n [] refused e f = f
  also_last (Some (SwitchNode place branches)) n left refused e f = f
  also_last (Some (TakeNode arm binds)) n left refused e f = f
  also_last (Some MissNode) n left refused e f = f
  also_last (Some VoidNode) n left refused e f = f
  also_last None n left refused e f = f

  asked_guards : (answers : List Bool) (ns : List ℕ) (o : selecting.Outcome) → EndsIn nodes v answers ns o →
      Every IsGuard ns
  asked_guards answers ns o w =
      subst (Every IsGuard) w.asks
      (also_last (slice_get nodes w.last.node) w.last.node w.last.left w.last.refused refl
      (all_guards (root answers) w.last w.comes tt))

  each_asked : (ns : List ℕ) → Every IsGuard ns → Each (IsAskedAt nodes v) ns (guards_at nodes v ns)
  each_asked [] e = tt
  each_asked (n ∷ ns) e =
      let g = e.0 in
      let here : IsAskedAt nodes v n (asked_at g.arm g.binds v) = record {
        arm = ap arm_at g.there;
        bindings = ap (λ x. bindings_in v (binds_at x)) g.there;
      } in
      let one : guard_at v (slice_get nodes n) ≡ asked_at g.arm g.binds v ∷ [] = ap (guard_at v) g.there in
      subst (λ l. Each (IsAskedAt nodes v) (n ∷ ns) (l ++ guards_at nodes v ns)) (sym one) (here, each_asked ns e.1)

  pub runs_ask : (answers : List Bool) (s : Selected) (ns : List ℕ) → Means nodes v answers s →
      AreAsked nodes v answers ns →
      Each (IsAskedAt nodes v) ns s.asked
  runs_ask answers s ns m a =
      let one = one_walk nodes v answers m.asked_nodes ns s.outcome a.outcome m.walk a.walk in
      subst (λ l. Each (IsAskedAt nodes v) ns l) (ap (guards_at nodes v) (sym one.0) ∙ m.asks)
      (each_asked ns (asked_guards answers ns a.outcome a.walk))
