use Rattle.std.proofs.Common.{sym}
use Rattle.value_syntax.proofs.Lists.{one_closed, others_closed}
use Rattle.value_syntax.proofs.writing.tuple_end.Goals as goal

pub returns-then-parts-eq1 : goal.returns-then-parts-eq1
returns-then-parts-eq1 c = sym (one_closed c.args.parts.now c.if-parts-eq1.true)

pub returns-else-parts-eq1 : goal.returns-else-parts-eq1
returns-else-parts-eq1 c = sym (others_closed c.args.parts.now c.if-parts-eq1.false)
