use Rattle.std.proofs.Common.{reverse, drop}
use Rattle.keyed_matrix.specs.Deciding.{table_decides}
use Rattle.keyed_matrix.specs.Views.{plain_columns, plain_rows}
use Rattle.tree_eval.specs.Trees.{table_trees}
use Rattle.decision_tree.specs.Waiting.{Awaits}
use Rattle.decision_tree.proofs.lowering.push_guards.Given as goal

abbrev pub invariant-loop-i : goal.invariant-loop-i
invariant-loop-i g l =
    Awaits (g.C.PatCx.is_type l.cx) (g.C.PatCx.context l.cx) (g.C.PatCx.is_value l.cx) (table_decides l.decisions) g.root
    (reverse l.frames.items) (table_trees l.table) (plain_columns l.columns) (plain_rows (drop l.i l.rows))
