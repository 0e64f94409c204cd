use Rattle.std.proofs.Common.{refl}
use Rattle.constructor_sets.proofs.Spanning.{repeated_spans}
use Rattle.constructor_sets.proofs.spans.spans_of_all.Goals as goal

pub returns : goal.returns
returns c = repeated_spans c.args.pieces.now c.args.heads.now _ c.in_ok-spans.spans.items c.requires.all refl (c.in_ok-spans.ensures.items_if_clones_equal (λ y e. e))
