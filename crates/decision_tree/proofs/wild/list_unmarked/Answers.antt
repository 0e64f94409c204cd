use Rattle.std.proofs.Common.{◌+◌, refl, sym, ap, ◌∙◌, arith}
use Rattle.keyed_matrix.specs.Views.{plain_heads}
use Rattle.decision_tree.proofs.RunTests.{at-on, part-long}
use Rattle.decision_tree.proofs.Unmarked.{unmarked-next, unmarked-nothing}
use Rattle.decision_tree.proofs.wild.list_unmarked.Goals as goal

pub loop-one-init : goal.loop-one-init
loop-one-init g c = record { passed = refl; kept = ap plain_heads c.clear.ensures.items ∙ sym (unmarked-nothing c.args.marks.now) }

pub add_unmarked-requires : goal.add_unmarked-requires
add_unmarked-requires g c =
    let loop = c.loop-one in
    let xs = c.args.heads.now in
    let next = at-on xs loop.one-index c.one-item.result c.loop-one-test.true c.one-item.is loop.at loop.invariant.passed in
    let part = part-long xs (loop.one-index + 1) in
    let heads = c.requires in
    omega (arith, next, part, heads)

pub overflow_add-at : goal.overflow_add-at
overflow_add-at g c =
    let loop = c.loop-one in
    let xs = c.args.heads.now in
    let next = at-on xs loop.one-index c.one-item.result c.loop-one-test.true c.one-item.is loop.at loop.invariant.passed in
    let part = part-long xs (loop.one-index + 1) in
    let size = c.size_of-at.ensures in
    let heads = c.requires in
    omega (arith, next, part, size, heads)

pub loop-one-preserved : goal.loop-one-preserved
loop-one-preserved g c =
    let loop = c.loop-one in
    let xs = c.args.heads.now in
    let one = c.one-item.result in
    record {
      passed =
          ap (λ n. loop.at + n) c.size_of-at.ensures
          ∙ at-on xs loop.one-index one c.loop-one-test.true c.one-item.is loop.at loop.invariant.passed;
      kept =
          unmarked-next xs loop.one-index one c.loop-one-test.true c.one-item.is c.args.marks.now loop.at
          loop.invariant.passed (plain_heads loop.all.items) (plain_heads c.add_unmarked.new.all.items)
          loop.invariant.kept c.in_ok-add_unmarked.ensures;
    }
