use Rattle.std.proofs.Common.{IsTrue, take}
use Rattle.std.specs.List.{All}
use Rattle.pat_context.specs.Views.{is_sure}
use Rattle.constructor_sets.specs.Numbered.{is_valued}
use Rattle.constructor_sets.proofs.variants.are_valued.Given as goal

abbrev pub invariant-loop-k : goal.invariant-loop-k
invariant-loop-k g l = All (λ k. IsTrue (is_valued (g.C.PatCx.variant_empty_of l.cx l.ty) (is_sure l.validity) k)) (take l.k-index l.numbers)
