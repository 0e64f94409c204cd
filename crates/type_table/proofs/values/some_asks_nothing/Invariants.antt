use Rattle.std.proofs.Common.{◌≡◌, map, drop}
use Rattle.std.specs.List.{list_any}
use Rattle.type_table.specs.Bodies.{asks_nothing, variant_body}
use Rattle.type_table.proofs.values.some_asks_nothing.Given as goal

abbrev pub invariant-loop-variant : goal.invariant-loop-variant
invariant-loop-variant l = list_any asks_nothing (map variant_body (drop l.variant-index l.variants)) ≡ list_any asks_nothing (map variant_body l.variants)
