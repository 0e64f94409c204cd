use Rattle.std.proofs.Common.{arith}
use Rattle.pat_context.specs.Views.{plain_ctor}
use Rattle.constructor_sets.proofs.Spanning.{end_beside}
use Rattle.constructor_sets.proofs.spans.is_end.Goals as goal

pub returns-then-goes_below : goal.returns-then-goes_below
returns-then-goes_below c =
    λ t. end_beside (plain_ctor c.args.head.now) c.args.pieces.now c.args.count c.requires.head c.requires.rising (omega arith) (c.goes_below.ensures c.if-goes_below.true) (c.ends_at.ensures t)
