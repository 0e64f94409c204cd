use Rattle.std.proofs.Common.{◌≡◌, [], take}
use Rattle.indexmap.specs.IndexSet.{insert_all}
use Rattle.list_members.proofs.members.member_set.Given as goal

abbrev pub invariant-loop-key : goal.invariant-loop-key
invariant-loop-key g l = l.set.keys ≡ insert_all g.K.PartialEq.eq [] (take l.key-index l.all)
