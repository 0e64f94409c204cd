use Rattle.constructor_sets.proofs.KnownSpans.{nothing_known}
use Rattle.constructor_sets.proofs.known.Known.with_room.Goals as goal

pub returns : goal.returns
returns c = nothing_known (record { fixed = c.in_ok-fixed.fixed; longer = c.in_ok-longer.longer }) c.in_ok-fixed.ensures c.in_ok-longer.ensures
