use lib.Dec.{eqb}
use Rattle.std.proofs.lemmas.List.Filters.{dedup_is}
use Rattle.constructor_sets.proofs.Numbering.{numbers_once}
use Rattle.constructor_sets.proofs.variants.sorted_numbers.Goals as goal

pub returns : goal.returns
returns c =
    numbers_once c.args.numbers.items c.sort.new.self.items c.dedup.new.self.items
    c.in_ok-sort.ensures.permutation c.in_ok-sort.ensures.sorted (dedup_is eqb c.sort.new.self.items c.dedup.new.self.items c.dedup.ensures.filtered)
