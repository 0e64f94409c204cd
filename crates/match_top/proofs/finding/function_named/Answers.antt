use Rattle.std.proofs.Common.{sym}
use Rattle.match_top.specs.Selections.{numbered_view}
use Rattle.match_top.proofs.Named.{found_here, none_more}
use Rattle.match_top.proofs.finding.function_named.Goals as goal

pub returns-in-Some : goal.returns-in-Some
returns-in-Some c =
    let here = rw c.in-Some.is at c.function_at.ensures in
    sym (found_here c.args.items.now c.loop-number.number c.index-items-number.result c.args.name.now (numbered_view c.in-Some.found)
    c.loop-number-test.true c.index-items-number.is c.loop-number.invariant (sym here))

pub loop-number-preserved : goal.loop-number-preserved
loop-number-preserved c =
    let here = rw c.in-None.is at c.function_at.ensures in
    none_more c.args.items.now c.loop-number.number c.index-items-number.result c.args.name.now c.loop-number-test.true c.index-items-number.is
    c.loop-number.invariant (sym here)
