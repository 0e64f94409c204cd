use Rattle.std.proofs.Common.{subst, not}
use Rattle.range_split.specs.Numbers.{num_value}
use Rattle.pattern_lints.specs.Ends.{is_before, IsCount}
use Rattle.pattern_lints.proofs.EndOrder.{run-is}
use Rattle.pattern_lints.proofs.ends.run_across.Goals as goal

pub returns : goal.returns
returns c =
    let e = c.args.end.now in
    let ends = c.args.ends.now in
    run-is c.args.side e ends c.count_before-first.result c.count_before-last.result
    (subst (λ b. IsCount (is_before (not b) e.place (num_value e.number) (num_value e.from)) ends c.count_before-first.result) c.is_high.ensures c.count_before-first.ensures)
    c.count_before-last.ensures
