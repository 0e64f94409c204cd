use Rattle.std.proofs.Common.{◌+◌, ◌++◌, ◌∙◌, map, refl, ap, arith}
use Rattle.std.proofs.lemmas.List.{take_all}
use Rattle.match_model.specs.DecisionTrees.{all_head_binds}
use Rattle.keyed_matrix.specs.Views.{plain_columns, plain_heads}
use Rattle.tree_eval.specs.Nodes.{plain_bind}
use Rattle.decision_tree.proofs.HeadNames.{names-begun, names-next}
use Rattle.decision_tree.proofs.RunTests.{at-on, part-long}
use Rattle.decision_tree.proofs.binds.add_heads.Goals as goal

pub loop-one-init : goal.loop-one-init
loop-one-init g c = record {
  passed = refl;
  names = names-begun (plain_columns c.args.columns.now) (map plain_bind c.args.all.now.items);
}

pub add_run-requires : goal.add_run-requires
add_run-requires g c =
    let loop = c.loop-one in
    let xs = c.args.heads.now in
    let next = at-on xs loop.one-index c.one-item.result c.loop-one-test.true c.one-item.is loop.at loop.invariant.passed in
    let part = part-long xs (loop.one-index + 1) in
    let heads = c.requires in
    omega (arith, next, part, heads)

pub overflow_add-at : goal.overflow_add-at
overflow_add-at g c =
    let loop = c.loop-one in
    let xs = c.args.heads.now in
    let next = at-on xs loop.one-index c.one-item.result c.loop-one-test.true c.one-item.is loop.at loop.invariant.passed in
    let part = part-long xs (loop.one-index + 1) in
    let size = c.size_of-at.ensures in
    let heads = c.requires in
    omega (arith, next, part, size, heads)

pub loop-one-preserved : goal.loop-one-preserved
loop-one-preserved g c =
    let loop = c.loop-one in
    let xs = c.args.heads.now in
    let one = c.one-item.result in
    record {
      passed =
          ap (λ n. loop.at + n) c.size_of-at.ensures
          ∙ at-on xs loop.one-index one c.loop-one-test.true c.one-item.is loop.at loop.invariant.passed;
      names =
          names-next xs loop.one-index one c.loop-one-test.true c.one-item.is (plain_columns c.args.columns.now)
          (map plain_bind c.args.all.now.items) (map plain_bind loop.all.items) (map plain_bind c.add_run.new.all.items)
          loop.at loop.invariant.passed loop.invariant.names c.in_ok-add_run.ensures;
    }

pub returns : goal.returns
returns g c =
    let loop = c.loop-one in
    loop.invariant.names
    ∙ ap (λ xs. map plain_bind c.args.all.now.items ++ all_head_binds (plain_columns c.args.columns.now) (plain_heads xs))
    (take_all loop.one-index c.args.heads.now c.loop-one-test.false)
