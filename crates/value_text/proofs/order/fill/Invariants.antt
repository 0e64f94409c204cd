use Rattle.std.proofs.Common.{◌≡◌, length}
use Rattle.value_text.proofs.Orders.{IsFilled}
use Rattle.value_text.proofs.order.fill.Given as goal

abbrev pub invariant-loop-i : goal.invariant-loop-i
invariant-loop-i g l = record {
  filled : IsFilled l.fn.given.items l.given.items (length l.fn.slots.items) l.slots.items;
  count : length l.slots.items ≡ length l.fn.slots.items;
}

abbrev pub decreases-loop-i : goal.decreases-loop-i
decreases-loop-i g l = length l.given.items
