-- A stop of a walk: where it goes on, or how it ends there.
use Rattle.std.specs.Prelude.{◌≡◌, ◌⊎◌, ℕ, Bool, true, false, List, Option, Some, None, slice_get}
use Rattle.std.specs.Option.{option_or}
use Rattle.std.specs.List.{find}
use Rattle.match_model.specs.Values.{MValue}
use Rattle.match_model.specs.Places.{MStep}
use Rattle.match_model.specs.Trees.{MBind, MBranch, MNode, SwitchNode, AskNode, TakeNode, MissNode, VoidNode, case_has, is_else, branch_at}
use Rattle.tree_runs.specs.declared.turn.Turn.{Turn}
use Rattle.tree_runs.specs.declared.turn.Turn.TheVariants as turn

-- the first branch whose case has the part, or else the first else
abbrev pub branch_for : MValue → List MBranch → Option MBranch
branch_for u branches = option_or (find (λ b. case_has b.case u) branches) (find (λ b. is_else b.case) branches)

-- the switch goes on at the node `next`
pub record GoesByCase (x : MNode) (v : MValue) (next : ℕ) : Type 0 where
  pub place : List MStep
  pub branches : List MBranch
  pub branch : MBranch
  pub node : x ≡ SwitchNode place branches
  pub taken : branch_at place branches v ≡ Some branch
  pub is : branch.next ≡ next

-- the guard refuses, and the walk goes on at the node `next`
pub record GoesByRefusal (x : MNode) (answer : Option Bool) (next : ℕ) : Type 0 where
  pub arm : ℕ
  pub binds : List MBind
  pub node : x ≡ AskNode arm binds next
  pub refuses : answer ≡ Some false

-- the guard gets this answer, or none
pub record IsAnswered (x : MNode) (answer wanted : Option Bool) : Type 0 where
  pub arm : ℕ
  pub binds : List MBind
  pub refused : ℕ
  pub node : x ≡ AskNode arm binds refused
  pub gets : answer ≡ wanted

-- the arm is taken, and no guard is asked
pub record TakesAlone (x : MNode) : Type 0 where
  pub arm : ℕ
  pub binds : List MBind
  pub node : x ≡ TakeNode arm binds

-- what happens at the node, where this is the next answer
abbrev pub IsTurn : MNode → MValue → (answer : Option Bool) → Turn → Type 0
IsTurn x v answer (turn.Case next) = GoesByCase x v next
IsTurn x v answer (turn.Refused next) = GoesByRefusal x answer next
IsTurn x v answer turn.Granted = IsAnswered x answer (Some true)
IsTurn x v answer turn.Taken = TakesAlone x
IsTurn x v answer turn.Missed = (x ≡ MissNode) ⊎ (x ≡ VoidNode)
IsTurn x v answer turn.Short = IsAnswered x answer None

-- the node with this number is there, and so is what happens at it
pub record IsTurnAt (nodes : List MNode) (number : ℕ) (v : MValue) (answer : Option Bool) (t : Turn) : Type 0 where
  pub node : MNode
  pub there : slice_get nodes number ≡ Some node
  pub turn : IsTurn node v answer t
