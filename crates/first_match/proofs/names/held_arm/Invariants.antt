use Rattle.std.proofs.Common.{◌≡◌, map, take}
use Rattle.first_match.specs.Names.{plain_seen}
use Rattle.first_match.specs.Selections.{plain_held}
use Rattle.first_match.proofs.names.held_arm.Given as goal

abbrev pub invariant-loop-seen : goal.invariant-loop-seen
invariant-loop-seen l = map plain_held l.held.items ≡ map plain_seen (take l.seen-index l.seen-items)
