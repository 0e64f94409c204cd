use Rattle.std.proofs.Common.{◌+◌, refl, ap, ◌∙◌, subst, arith}
use Rattle.std.proofs.lemmas.List.{take_all}
use Rattle.keyed_matrix.specs.Views.{plain_heads}
use Rattle.decision_tree.specs.WildColumns.{StayWhereWild}
use Rattle.decision_tree.proofs.Marks.{none-stay, stay-next}
use Rattle.decision_tree.proofs.RunTests.{at-on, part-long}
use Rattle.decision_tree.proofs.wild.mark_row.Goals as goal

pub loop-one-init : goal.loop-one-init
loop-one-init g c = record { passed = refl; marks = none-stay c.args.marks.now }

pub mark_run-requires : goal.mark_run-requires
mark_run-requires g c =
    let loop = c.loop-one in
    let xs = c.args.heads.now in
    let next = at-on xs loop.one-index c.one-item.result c.loop-one-test.true c.one-item.is loop.at loop.invariant.passed in
    let part = part-long xs (loop.one-index + 1) in
    let long = loop.invariant.marks.long in
    let count = c.requires.marks in
    let heads = c.requires.heads in
    omega (arith, next, part, long, count, heads)

pub overflow_add-at : goal.overflow_add-at
overflow_add-at g c =
    let loop = c.loop-one in
    let xs = c.args.heads.now in
    let next = at-on xs loop.one-index c.one-item.result c.loop-one-test.true c.one-item.is loop.at loop.invariant.passed in
    let part = part-long xs (loop.one-index + 1) in
    let size = c.size_of-at.ensures in
    let heads = c.requires.heads in
    omega (arith, next, part, size, heads)

pub loop-one-preserved : goal.loop-one-preserved
loop-one-preserved g c =
    let loop = c.loop-one in
    let xs = c.args.heads.now in
    let one = c.one-item.result in
    record {
      passed =
          ap (λ n. loop.at + n) c.size_of-at.ensures
          ∙ at-on xs loop.one-index one c.loop-one-test.true c.one-item.is loop.at loop.invariant.passed;
      marks =
          stay-next xs loop.one-index one c.loop-one-test.true c.one-item.is c.args.marks.now loop.marks
          c.mark_run.new.marks loop.at loop.invariant.passed loop.invariant.marks c.mark_run.ensures;
    }

pub returns : goal.returns
returns g c =
    subst (λ xs. StayWhereWild 0 (plain_heads xs) c.args.marks.now c.loop-one.marks)
    (take_all c.loop-one.one-index c.args.heads.now c.loop-one-test.false) c.loop-one.invariant.marks
