use Rattle.usefulness.proofs.Choosing.{first_lists}
use Rattle.usefulness.proofs.choice.shortest.Goals as goal

pub loop-i-init : goal.loop-i-init
loop-i-init g c = first_lists c.args.rows.now c.requires
