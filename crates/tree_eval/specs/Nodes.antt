-- Nodes and trees as the definitions have them.
use Rattle.std.specs.Prelude.{ℕ, List, map, chars}
use Rattle.std.specs.String.{string_bytes}
use Rattle.match_model.specs.Trees.{MCase, VariantCase, FlagCase, SpanCase, TextCase, LengthCase, LongerCase, ElseCase, MBind, MBranch, MNode, SwitchNode, AskNode, TakeNode, MissNode, VoidNode}
use Rattle.range_split.specs.Ranges.{plain_range}
use Rattle.pat_context.specs.Places.{steps_of}
use Rattle.pat_context.specs.Views.{plain_place}
use Rattle.tree_eval.specs.declared.tree.Case.{Case}
use Rattle.tree_eval.specs.declared.tree.Case.TheVariants as c
use Rattle.tree_eval.specs.declared.tree.Bind.{Bind}
use Rattle.tree_eval.specs.declared.tree.Node.{Node}
use Rattle.tree_eval.specs.declared.tree.Node.TheVariants as n
use Rattle.tree_eval.specs.declared.tree.Tree.{Tree}

-- the case, as the definitions have it; a text is the list of its scalar values
abbrev pub plain_case : Case → MCase
plain_case (c.Variant k) = VariantCase k
plain_case (c.Flag b) = FlagCase b
plain_case (c.Span r) = SpanCase (plain_range r)
plain_case (c.Text t) = TextCase (chars (string_bytes t))
plain_case (c.Length n) = LengthCase n
plain_case (c.Longer front back) = LongerCase front back
plain_case c.Else = ElseCase

-- the case with the number where it goes on, as the definitions have it
abbrev pub plain_branch : Case × ℕ → MBranch
plain_branch b = record { case = plain_case b.0; next = b.1 }

-- the name and its place, as the definitions have them
abbrev pub plain_bind : Bind → MBind
plain_bind b = record { name = string_bytes b.name; mode = b.mode; place = plain_place (steps_of b.place) }

-- the node, as the definitions have it
abbrev pub plain_node : Node → MNode
plain_node (n.Switch place cases) = SwitchNode (plain_place (steps_of place)) (map plain_branch cases.items)
plain_node (n.Ask arm binds next) = AskNode arm (map plain_bind binds.items) next
plain_node (n.Take arm binds) = TakeNode arm (map plain_bind binds.items)
plain_node n.Miss = MissNode
plain_node n.Void = VoidNode

-- the nodes of the tree, as the definitions have them
abbrev pub tree_nodes : Tree → List MNode
tree_nodes t = map plain_node t.nodes.items
