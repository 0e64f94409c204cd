use Rattle.std.proofs.Common.{◌≡◌, ◌++◌, map, Some}
use Rattle.value_text.proofs.order.all_there.Given as goal

abbrev pub invariant-loop-slot : goal.invariant-loop-slot
invariant-loop-slot g l = map Some l.all.items ++ l.slot-iterator.rest.items ≡ l.fn.slots.items
