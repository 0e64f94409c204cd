use Rattle.std.proofs.Common.{false, slice_index_or, arith}
use Rattle.usefulness.specs.States.{plain_opens}
use Rattle.usefulness.proofs.Noting.{kept_step, kept_all}
use Rattle.usefulness.proofs.compact.kept_columns.Goals as goal

pub loop-column-preserved : goal.loop-column-preserved
loop-column-preserved g c =
    let loop = c.loop-column in
    kept_step (λ n. slice_index_or c.args.used.now n false) c.args.columns.now loop.column-index c.column-item.result (plain_opens loop.kept.items) (plain_opens c.add_used.new.kept.items)
    c.loop-column-test.true c.column-item.is loop.invariant c.in_ok-add_used.ensures

pub returns : goal.returns
returns g c =
    let loop = c.loop-column in
    let over = c.loop-column-test.false in
    kept_all (λ n. slice_index_or c.args.used.now n false) c.args.columns.now loop.column-index (plain_opens loop.kept.items) (omega (arith, over)) loop.invariant
