use Rattle.std.proofs.Common.{◌≡◌, false}
use Rattle.std.specs.List.{list_any}
use Rattle.match_model.specs.Pieces.{each_below}
use Rattle.pat_context.specs.Views.{is_sure}
use Rattle.constructor_sets.specs.Numbered.{is_left_out}
use Rattle.constructor_sets.proofs.Numbering.{IsWalked}
use Rattle.constructor_sets.proofs.variants.leaves_out.Given as goal

abbrev pub invariant-loop-k : goal.invariant-loop-k
invariant-loop-k g l =
    (list_any (is_left_out (g.C.PatCx.variant_empty_of l.cx l.ty) (is_sure l.validity) l.numbers) (each_below (λ k. k) l.k) ≡ false) × IsWalked l.numbers l.place l.k
