use Rattle.std.proofs.Common.{arith}
use Rattle.std.proofs.lemmas.Grind.{common_steps}
use Rattle.slice_split.proofs.split.least_longer.Goals as goal

pub loop-column-preserved : goal.loop-column-preserved
loop-column-preserved c = λ n h. grind (arith, common_steps, c.loop-column.invariant n h)
