use Rattle.std.proofs.Common.{arith}
use Rattle.tree_eval.proofs.Renumbering.{case-below, case-renumbered}
use Rattle.tree_eval.proofs.numbers.cases_from_last.Goals as goal

pub overflow_sub-case : goal.overflow_sub-case
overflow_sub-case c =
    let b = case-below c.args.count c.args.cases.items c.loop-case.case-items c.loop-case.case-index c.case-item.result
    c.requires c.loop-case.invariant.left (omega (arith, c.loop-case-test.true, c.loop-case.auto.case-items)) in
    omega (arith, b)

pub overflow_sub-case-in-loop-case : goal.overflow_sub-case-in-loop-case
overflow_sub-case-in-loop-case c =
    let b = case-below c.args.count c.args.cases.items c.loop-case.case-items c.loop-case.case-index c.case-item.result
    c.requires c.loop-case.invariant.left (omega (arith, c.loop-case-test.true, c.loop-case.auto.case-items)) in
    omega (arith, b)

pub loop-case-preserved : goal.loop-case-preserved
loop-case-preserved c =
    let s = case-renumbered c.args.count c.args.cases.items c.loop-case.case-items c.loop-case.case-index
    c.case-item.result c.loop-case.invariant.made c.loop-case.invariant.left (omega (arith, c.loop-case-test.true, c.loop-case.auto.case-items)) in
    record { made = s.0; left = s.1 }
