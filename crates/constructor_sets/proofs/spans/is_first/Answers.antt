use Rattle.std.proofs.Common.{arith}
use Rattle.pat_context.specs.Views.{plain_ctor}
use Rattle.constructor_sets.proofs.Spanning.{first_beside}
use Rattle.constructor_sets.proofs.spans.is_first.Goals as goal

pub returns-then-starts_below : goal.returns-then-starts_below
returns-then-starts_below c =
    λ t. first_beside (plain_ctor c.args.head.now) c.args.pieces.now c.args.count c.requires.rising (omega arith) (c.starts_below.ensures c.if-starts_below.true) (c.stops_at.ensures t)
