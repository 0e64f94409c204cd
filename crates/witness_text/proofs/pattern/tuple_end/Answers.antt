use Rattle.std.proofs.Common.{sym}
use Rattle.witness_text.proofs.Lists.{one_closed, others_closed}
use Rattle.witness_text.proofs.pattern.tuple_end.Goals as goal

pub returns-then-parts-eq1 : goal.returns-then-parts-eq1
returns-then-parts-eq1 c style = sym (one_closed style c.args.parts.now c.if-parts-eq1.true)

pub returns-else-parts-eq1 : goal.returns-else-parts-eq1
returns-else-parts-eq1 c style = sym (others_closed style c.args.parts.now c.if-parts-eq1.false)
