use Rattle.std.proofs.Common.{◌<◌, ◌+◌, reverse, drop, length, refl, sym, subst, arith}
use Rattle.std.proofs.lemmas.Bool.{and_parts}
use Rattle.match_model.specs.DecisionTrees.{all_wild}
use Rattle.keyed_matrix.specs.Deciding.{table_decides}
use Rattle.keyed_matrix.specs.Views.{plain_columns, plain_row, plain_rows}
use Rattle.tree_eval.specs.Trees.{table_trees}
use Rattle.decision_tree.specs.declared.frames.Frame.TheVariants.{Guard}
use Rattle.decision_tree.specs.Waiting.{Awaits}
use Rattle.decision_tree.proofs.Asking.{asked-here, asked-first}
use Rattle.decision_tree.proofs.Reading.{read-map}
use Rattle.decision_tree.proofs.Turning.{last-first, guard-begun}
use Rattle.decision_tree.proofs.lowering.push_guards.Goals as goal

pub loop-i-init : goal.loop-i-init
loop-i-init g c = c.requires.1.1.1.1.1

pub row_binds-requires : goal.row_binds-requires
row_binds-requires g c =
    let rows = c.args.rows.now in
    let i = c.loop-i.i in
    let row = c.index-rows-i.result in
    let within : i < length rows = omega (arith, c.requires.1.1.0) in
    c.requires.1.1.1.1.0 i (plain_row row) (read-map plain_row rows i row within c.index-rows-i.is)

pub loop-i-preserved : goal.loop-i-preserved
loop-i-preserved g c =
    let cx = c.args.cx.now in
    let IsType = g.C.PatCx.is_type cx in
    let context = g.C.PatCx.context cx in
    let V = g.C.PatCx.is_value cx in
    let decides = table_decides c.args.decisions.now in
    let now = table_trees c.args.table.now in
    let columns = plain_columns c.args.columns.now in
    let rows = c.args.rows.now in
    let i = c.loop-i.i in
    let row = c.index-rows-i.result in
    let binds = c.in_ok-binds.binds in
    let frames = reverse c.loop-i.frames.items in
    let within : i < length rows = omega (arith, c.requires.1.1.0) in
    let asks = and_parts row.guarded (all_wild (plain_row row))
    (asked-here rows i row within c.index-rows-i.is c.args.count c.loop-i-test.true c.requires.1.1.1.0) in
    subst (λ fs. Awaits IsType context V decides g.root fs now columns (plain_rows (drop (i + 1) rows)))
    (sym (last-first c.loop-i.frames.items c.push.new.self.items (Guard row.arm binds) c.in_ok-push.ensures.items))
    (guard-begun IsType context V decides g.root frames now row.arm binds columns (plain_row row)
    (plain_rows (drop (i + 1) rows)) asks.1 asks.0 refl c.in_ok-binds.ensures
    (subst (Awaits IsType context V decides g.root frames now columns) (asked-first rows i row within c.index-rows-i.is)
    c.loop-i.invariant))
