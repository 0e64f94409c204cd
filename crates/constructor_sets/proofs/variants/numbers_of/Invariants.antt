use Rattle.std.proofs.Common.{◌≡◌, ◌++◌, drop, filter_map}
use Rattle.constructor_sets.specs.Columns.{plain_ctors}
use Rattle.constructor_sets.specs.Numbered.{variant_of}
use Rattle.constructor_sets.proofs.variants.numbers_of.Given as goal

abbrev pub invariant-loop-head : goal.invariant-loop-head
invariant-loop-head l =
    l.numbers.items ++ filter_map variant_of (plain_ctors (drop l.head-index l.heads)) ≡ filter_map variant_of (plain_ctors l.heads)
