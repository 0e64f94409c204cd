use Rattle.std.proofs.Common.{Some, ap, ◌∙◌}
use Rattle.usefulness.proofs.Choosing.{number_at}
use Rattle.usefulness.proofs.look.place_of.Goals as goal

pub returns-then-column-number-clause-number : goal.returns-then-column-number-clause-number
returns-then-column-number-clause-number g c =
    number_at c.args.columns.now c.loop-i.i c.index-columns-i.result c.loop-i-test.true c.index-columns-i.is ∙ ap Some c.if-column-number.true
