-- What runs tell of a tree is what it means.
use Rattle.std.specs.Prelude.{◌≡◌, ℕ, Bool, List, Some, slice_get}
use Rattle.match_model.specs.Lists.{Each}
use Rattle.match_model.specs.Values.{MValue}
use Rattle.match_model.specs.Select as selecting
use Rattle.match_model.specs.Select.{Asked, Selected, Took, Missed, Short}
use Rattle.match_model.specs.Trees.{MNode, bindings_in, Means}
use Rattle.tree_runs.specs.declared.run.Outcome.{Outcome}
use Rattle.tree_runs.specs.declared.run.Outcome.TheVariants as run
use Rattle.tree_runs.specs.Held.{arm_at, binds_at}
use Rattle.tree_runs.specs.Runs.{IsRun, AreAsked}

-- the node has an arm, and this is what is selected there
abbrev pub IsTakenAt : List MNode → MValue → (node : ℕ) → selecting.Outcome → Type 0
IsTakenAt nodes v n o =
    (arm : ℕ) × (arm_at (slice_get nodes n) ≡ Some arm) × (o ≡ Took arm (bindings_in v (binds_at (slice_get nodes n))))

-- this is how the match ends, where a run through the tree ends so
abbrev pub Tells : List MNode → MValue → Outcome → selecting.Outcome → Type 0
Tells nodes v (run.Took node used) o = IsTakenAt nodes v node o
Tells nodes v (run.Missed used) o = o ≡ Missed
Tells nodes v (run.Short used) o = o ≡ Short

-- the node has an arm, and this is what its guard is asked with
pub record IsAskedAt (nodes : List MNode) (v : MValue) (node : ℕ) (a : Asked) : Type 0 where
  pub arm : arm_at (slice_get nodes node) ≡ Some a.arm
  pub bindings : bindings_in v (binds_at (slice_get nodes node)) ≡ a.bindings

-- the outcome that a tree means is the one that a run ends with
abbrev pub RunsEndAsTheTreeMeans : Type 0
RunsEndAsTheTreeMeans =
    (nodes : List MNode) (v : MValue) (answers : List Bool) (s : Selected) (o : Outcome) → Means nodes v answers s →
    IsRun nodes v answers o → Tells nodes v o s.outcome

-- the guards that a tree means to ask are those of the nodes that were asked, in order
abbrev pub RunsAskAsTheTreeMeans : Type 0
RunsAskAsTheTreeMeans =
    (nodes : List MNode) (v : MValue) (answers : List Bool) (s : Selected) (ns : List ℕ) → Means nodes v answers s →
    AreAsked nodes v answers ns → Each (IsAskedAt nodes v) ns s.asked
