use Rattle.std.proofs.Common.{◌≡◌, [], false, take}
use Rattle.list_members.specs.Members.{repeats}
use Rattle.list_members.proofs.members.repeats.Given as goal

abbrev pub invariant-loop-key : goal.invariant-loop-key
invariant-loop-key g l = (l.seen.keys ≡ take l.key-index l.all) × (repeats g.K.PartialEq.eq [] (take l.key-index l.all) ≡ false)
