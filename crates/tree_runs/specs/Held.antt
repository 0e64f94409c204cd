-- What the names at a node hold.
use Rattle.std.specs.Prelude.{ℕ, List, [], map, reverse, Option, Some, None}
use Rattle.std.specs.String.{string_bytes}
use Rattle.match_model.specs.Values.{MValue}
use Rattle.match_model.specs.Places.{part_at}
use Rattle.match_model.specs.Ways.{Binding, bind_into}
use Rattle.match_model.specs.Trees.{MBind, MNode, SwitchNode, AskNode, TakeNode, MissNode, VoidNode}
use Rattle.tree_eval.specs.Views.{plain_value}
use Rattle.tree_runs.specs.declared.held.Held.{Held}

-- a name with what it is bound to, as the definitions have it
abbrev pub plain_held : Held → Binding
plain_held h = record { name = string_bytes h.name; mode = h.mode; value = plain_value h.value }

-- names with what they are bound to, the last one first
abbrev pub held_backward : List Held → List Binding
held_backward hs = reverse (map plain_held hs)

-- the bindings with one more, where its place is there
abbrev pub with_bind : MValue → MBind → List Binding → List Binding
with_bind v b bs =
    elim (part_at b.place v) [
      | None ↦ bs
      | Some u ↦ bind_into (record { name = b.name; mode = b.mode; value = u }) bs
    ]

-- the names that the arm of a node binds; a node without an arm has none
abbrev pub binds_at : Option MNode → List MBind
binds_at (Some (AskNode arm binds refused)) = binds
binds_at (Some (TakeNode arm binds)) = binds
binds_at (Some (SwitchNode place branches)) = []
binds_at (Some MissNode) = []
binds_at (Some VoidNode) = []
binds_at None = []

-- the arm of a node, where it has one
abbrev pub arm_at : Option MNode → Option ℕ
arm_at (Some (AskNode arm binds refused)) = Some arm
arm_at (Some (TakeNode arm binds)) = Some arm
arm_at (Some (SwitchNode place branches)) = None
arm_at (Some MissNode) = None
arm_at (Some VoidNode) = None
arm_at None = None
