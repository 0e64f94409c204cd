use Rattle.std.proofs.Common.{take}
use Rattle.std.specs.List.{All}
use Rattle.type_table.specs.Known.{HasFewFields}
use Rattle.type_table.proofs.known.variants_are_few.Given as goal

abbrev pub invariant-loop-variant : goal.invariant-loop-variant
invariant-loop-variant l = All HasFewFields (take l.variant-index l.variants)
