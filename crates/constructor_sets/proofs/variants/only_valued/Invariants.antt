use Rattle.std.proofs.Common.{◌≡◌, ◌++◌, drop}
use Rattle.std.specs.List.{filter}
use Rattle.pat_context.specs.Views.{is_sure}
use Rattle.constructor_sets.specs.Numbered.{is_valued}
use Rattle.constructor_sets.proofs.variants.only_valued.Given as goal

abbrev pub invariant-loop-k : goal.invariant-loop-k
invariant-loop-k g l =
    l.valued.items ++ filter (is_valued (g.C.PatCx.variant_empty_of l.cx l.ty) (is_sure l.validity)) (drop l.k-index l.numbers)
    ≡ filter (is_valued (g.C.PatCx.variant_empty_of l.cx l.ty) (is_sure l.validity)) l.numbers
