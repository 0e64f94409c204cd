use Rattle.std.proofs.Common.{◌≡◌, ◌++◌, drop, map}
use Rattle.match_model.specs.Constructors.{VariantCtor}
use Rattle.constructor_sets.specs.Columns.{plain_ctors}
use Rattle.constructor_sets.proofs.variants.variants_of.Given as goal

abbrev pub invariant-loop-k : goal.invariant-loop-k
invariant-loop-k l = plain_ctors l.variants.items ++ map VariantCtor (drop l.k-index l.numbers) ≡ map VariantCtor l.numbers
