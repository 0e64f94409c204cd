use Rattle.std.proofs.Common.{◌+◌, ◌-◌, arith}
use Rattle.keyed_matrix.proofs.HeadRuns.{wilds-recounted}
use Rattle.keyed_matrix.proofs.heads.recounted.Goals as goal

pub returns-else-count-others : goal.returns-else-count-others
returns-else-count-others g c = λ left l.
    wilds-recounted c.args.one.now c.in-Wilds.size c.args.count left (c.in-Wilds.size - 1 + c.args.count) c.in-Wilds.is
    (omega arith) l
