use Rattle.std.proofs.Common.{◌-◌, ◌++◌, ◌∷◌, [], ◌∙◌, List, Bool, ap, rules}
use Rattle.std.specs.Prelude.{nat_le}
use Rattle.std.proofs.lemmas.List.{map-append}
use Rattle.match_model.specs.Constructors.{MCtor, LongerShape, RowCtor}
use Rattle.pat_context.specs.Views.{plain_ctor}
use Rattle.pat_context.specs.declared.ctor.Ctor.{Ctor}
use Rattle.pat_context.specs.declared.ctor.Ctor.TheVariants.{Row}
use Rattle.slice_split.specs.declared.shape.Shape.TheVariants.{Longer}
use Rattle.constructor_sets.specs.Columns.{plain_ctors, plain_flagged}
use Rattle.constructor_sets.proofs.RowLengths.{rows_short, lengths_split}
use Rattle.constructor_sets.proofs.lengths.slices.Goals as goal

pub lengths_of-requires : goal.lengths_of-requires
lengths_of-requires c = rows_short (plain_ctors c.args.column.now) c.requires

pub returns : goal.returns
returns c =
    let l = c.in_ok-lengths.lengths in
    let end = c.max-end.result in
    lengths_split (plain_ctors c.args.column.now) l end _ c.in_ok-lengths.ensures (search rules)
    (ap plain_flagged c.in_ok-push.ensures.items
    ∙ map-append (λ (p : Ctor × Bool). (plain_ctor p.0, p.1)) c.in_ok-pieces.pieces.items ((Row (Longer (end - l.back) l.back), nat_le l.least end) ∷ [])
    ∙ ap (λ (xs : List (MCtor × Bool)). xs ++ (RowCtor (LongerShape (end - l.back) l.back), nat_le l.least end) ∷ []) c.in_ok-pieces.ensures)
