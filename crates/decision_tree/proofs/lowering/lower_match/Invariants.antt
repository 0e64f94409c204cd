use Rattle.std.proofs.Common.{reverse}
use Rattle.keyed_matrix.specs.Deciding.{table_decides}
use Rattle.tree_eval.specs.Trees.{table_trees}
use Rattle.decision_tree.specs.KnownTrees.{AreKnown}
use Rattle.decision_tree.specs.KnownViews.{known_entries}
use Rattle.decision_tree.specs.Waiting.{IsBare, IsTurn}
use Rattle.decision_tree.proofs.lowering.lower_match.Given as goal

abbrev pub ghost-step : goal.ghost-step
ghost-step g a = g.root

abbrev pub invariant-loop-step : goal.invariant-loop-step
invariant-loop-step g l =
    IsTurn (g.C.PatCx.is_type l.cx) (g.C.PatCx.context l.cx) (g.C.PatCx.is_value l.cx) (table_decides l.decisions) g.root
    (reverse l.frames.items) (table_trees l.table) l.turn
    × AreKnown (g.C.PatCx.context l.cx) (g.C.PatCx.is_value l.cx) (table_decides l.decisions)
    (IsBare (g.C.PatCx.is_value l.cx) g.root) g.root (table_trees l.table) (known_entries l.known)
