use Rattle.std.proofs.Common.{◌≡◌, Some, drop, length, map, ap, arith}
use Rattle.pattern_arena.specs.Trees.{tree}
use Rattle.keyed_matrix.specs.Views.{plain_run, plain_columns}
use Rattle.tree_eval.specs.Nodes.{plain_bind}
use Rattle.decision_tree.proofs.HeadNames.{run-binds, none-bind}
use Rattle.decision_tree.proofs.binds.add_run.Goals as goal

pub returns-in-Wilds : goal.returns-in-Wilds
returns-in-Wilds g c =
    none-bind (drop c.args.at (plain_columns c.args.columns.now)) c.in-Wilds._count c.args.one.now
    (map plain_bind c.args.all.now.items) (ap plain_run c.in-Wilds.is)

pub bounds-columns-at : goal.bounds-columns-at
bounds-columns-at g c =
    let one : length (plain_run c.args.one.now) ≡ 1 = ap (λ r. length (plain_run r)) c.in-Written.is in
    omega (arith, one, c.requires)

pub returns-in-Written : goal.returns-in-Written
returns-in-Written g c =
    let one : length (plain_run c.args.one.now) ≡ 1 = ap (λ r. length (plain_run r)) c.in-Written.is in
    run-binds c.add_own.result c.args.columns.now c.args.at c.index-columns-at.result (Some (tree c.in-Written.p.now)) c.args.one.now
    (map plain_bind c.args.all.now.items) (map plain_bind c.add_own.new.all.items) (omega (arith, one, c.requires))
    (ap plain_run c.in-Written.is) c.add_own.ensures
