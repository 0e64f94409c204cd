-- How a walk through a tree ends, and which guards it asks (Maranget 2008).
use Rattle.std.specs.Prelude.{◌≡◌, ℕ, Bool, List, length}
use Rattle.match_model.specs.Values.{MValue}
use Rattle.match_model.specs.Select as selecting
use Rattle.match_model.specs.Select.{Took, Missed, Short}
use Rattle.match_model.specs.Trees.{MNode, EndsIn}
use Rattle.tree_runs.specs.declared.run.Outcome.{Outcome}
use Rattle.tree_runs.specs.declared.run.Outcome.TheVariants as run

-- how the end of a walk is told: by the node whose arm is taken, and by how many guards got an answer
abbrev pub told : selecting.Outcome → (node used : ℕ) → Outcome
told (Took arm bindings) node used = run.Took node used
told Missed node used = run.Missed used
told Short node used = run.Short used

-- the walk from node 0 with these answers ends so
pub record IsRun (nodes : List MNode) (v : MValue) (answers : List Bool) (o : Outcome) : Type 0 where
  pub asked_nodes : List ℕ
  pub outcome : selecting.Outcome
  pub walk : EndsIn nodes v answers asked_nodes outcome
  pub is : told outcome walk.last.node (length asked_nodes) ≡ o

-- the walk from node 0 with these answers asks the guards of these nodes, in order, and each gets an answer
pub record AreAsked (nodes : List MNode) (v : MValue) (answers : List Bool) (asked_nodes : List ℕ) : Type 0 where
  pub outcome : selecting.Outcome
  pub walk : EndsIn nodes v answers asked_nodes outcome
