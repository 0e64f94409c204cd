-- The nodes of trees with the names of their variants, without where they lie in memory.
use Rattle.std.specs.Prelude.{ℕ, Bool, List, map, chars}
use Rattle.match_model.specs.Numbers.{MRange}
use Rattle.match_model.specs.Places.{MStep}
use Rattle.match_model.specs.Trees.{MBind}
use Rattle.pat_context.specs.Places.{steps_of}
use Rattle.pat_context.specs.Views.{plain_place}
use Rattle.range_split.specs.Ranges.{plain_range}
use Rattle.tree_eval.specs.Nodes.{plain_bind}
use Rattle.witness_text.specs.Trees.{NameTree, name_view}
use Rattle.tree_text.specs.declared.named.NamedBranch.{NamedBranch}
use Rattle.tree_text.specs.declared.named.NamedCase.{NamedCase}
use Rattle.tree_text.specs.declared.named.NamedCase.TheVariants as c
use Rattle.tree_text.specs.declared.named.NamedNode.{NamedNode}
use Rattle.tree_text.specs.declared.named.NamedNode.TheVariants as n

-- a case: a variant by its name, a flag, a range, a text, a length, every length from `front + back` on, all other parts
pub data CaseTree : Type 0 where
  OfVariant : NameTree → CaseTree
  OfFlag : Bool → CaseTree
  OfSpan : MRange → CaseTree
  OfText : List ℕ → CaseTree
  OfLength : ℕ → CaseTree
  OfLonger : (front back : ℕ) → CaseTree
  OfElse : CaseTree

-- a case with the number of the node where it goes on
pub record BranchTree : Type 0 where
  pub case : CaseTree
  pub next : ℕ

-- a node: look at a place; ask the guard of an arm, and go on at `refused` where it refuses; take an arm; no arm is left; or
-- there is no value to match
pub data NodeTree : Type 0 where
  OfSwitch : (place : List MStep) → List BranchTree → NodeTree
  OfAsk : (arm : ℕ) → List MBind → (refused : ℕ) → NodeTree
  OfTake : (arm : ℕ) → List MBind → NodeTree
  OfMiss OfVoid : NodeTree

-- what a caller sees of a case; a text is the list of its scalar values
abbrev pub case_view : NamedCase → CaseTree
case_view (c.Variant name) = OfVariant (name_view name)
case_view (c.Flag b) = OfFlag b
case_view (c.Span r) = OfSpan (plain_range r)
case_view (c.Text t) = OfText (chars t.now)
case_view (c.Length n) = OfLength n
case_view (c.Longer front back) = OfLonger front back
case_view c.Else = OfElse

-- what a caller sees of a case with the number where it goes on
abbrev pub branch_view : NamedBranch → BranchTree
branch_view b = record { case = case_view b.case; next = b.next }

-- what a caller sees of a node
abbrev pub node_view : NamedNode → NodeTree
node_view (n.Switch place cases) = OfSwitch (plain_place (steps_of place.now)) (map branch_view cases.items)
node_view (n.Ask arm binds next) = OfAsk arm (map plain_bind binds.now) next
node_view (n.Take arm binds) = OfTake arm (map plain_bind binds.now)
node_view n.Miss = OfMiss
node_view n.Void = OfVoid
