use Rattle.std.proofs.Common.{◌+◌, refl, sym, map, ap, ◌∙◌, arith}
use Rattle.keyed_matrix.specs.Views.{plain_caught, plain_columns}
use Rattle.decision_tree.proofs.RunTests.{at-on, part-long}
use Rattle.decision_tree.proofs.Unmarked.{names-next, nothing-named}
use Rattle.decision_tree.proofs.wild.marked_names.Goals as goal

pub loop-one-init : goal.loop-one-init
loop-one-init g c = record { passed = refl; named = ap (map plain_caught) c.new-all.ensures.items ∙ sym (nothing-named c.args.marks.now (plain_columns c.args.columns.now)) }

pub add_marked-requires-clause-within : goal.add_marked-requires-clause-within
add_marked-requires-clause-within g c =
    let loop = c.loop-one in
    let xs = c.args.heads.now in
    let next = at-on xs loop.one-index c.one-item.result c.loop-one-test.true c.one-item.is loop.at loop.invariant.passed in
    let part = part-long xs (loop.one-index + 1) in
    let heads = c.requires.heads in
    omega (arith, next, part, heads)

pub overflow_add-at : goal.overflow_add-at
overflow_add-at g c =
    let loop = c.loop-one in
    let xs = c.args.heads.now in
    let next = at-on xs loop.one-index c.one-item.result c.loop-one-test.true c.one-item.is loop.at loop.invariant.passed in
    let part = part-long xs (loop.one-index + 1) in
    let size = c.size_of-at.ensures in
    let heads = c.requires.heads in
    omega (arith, next, part, size, heads)

pub loop-one-preserved : goal.loop-one-preserved
loop-one-preserved g c =
    let loop = c.loop-one in
    let xs = c.args.heads.now in
    let one = c.one-item.result in
    record {
      passed =
          ap (λ n. loop.at + n) c.size_of-at.ensures
          ∙ at-on xs loop.one-index one c.loop-one-test.true c.one-item.is loop.at loop.invariant.passed;
      named =
          names-next xs loop.one-index one c.loop-one-test.true c.one-item.is c.args.marks.now loop.at
          loop.invariant.passed (plain_columns c.args.columns.now) (map plain_caught loop.all.items)
          (map plain_caught c.add_marked.new.all.items) loop.invariant.named c.in_ok-add_marked.ensures;
    }
