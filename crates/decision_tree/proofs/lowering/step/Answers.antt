use Rattle.keyed_matrix.specs.Deciding.{table_decides}
use Rattle.tree_eval.specs.Trees.{table_trees}
use Rattle.decision_tree.specs.KnownViews.{known_entries}
use Rattle.decision_tree.specs.Waiting.{IsBare}
use Rattle.decision_tree.proofs.KnownTrees.{known-after}
use Rattle.decision_tree.proofs.lowering.step.Goals as goal

pub returns-in_ok-new-in-Lower-clause-known : goal.returns-in_ok-new-in-Lower-clause-known
returns-in_ok-new-in-Lower-clause-known g c =
    let context = g.C.PatCx.context c.args.cx.now in
    let V = g.C.PatCx.is_value c.args.cx.now in
    known-after context V (table_decides c.args.decisions.now) (IsBare V g.root) g.root (table_trees c.args.table.now)
    (table_trees c.lower_one.new.table) (known_entries c.args.known.now) c.in_ok-new-in-Lower.ensures.keeps
    c.requires.1.1.1.1.0
