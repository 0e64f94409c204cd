use Rattle.std.proofs.Common.{take}
use Rattle.std.specs.List.{All}
use Rattle.type_table.specs.Known.{IsFew}
use Rattle.type_table.proofs.known.items_are_few.Given as goal

abbrev pub invariant-loop-item : goal.invariant-loop-item
invariant-loop-item l = All IsFew (take l.item-index l.items)
