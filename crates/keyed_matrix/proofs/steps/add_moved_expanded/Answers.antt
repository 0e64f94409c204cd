use Rattle.std.proofs.Common.{[], ◌∷◌, ◌++◌, ap, sym, ◌∙◌}
use Rattle.std.proofs.lemmas.List.{map-append}
use Rattle.pat_context.specs.Views.{plain_place}
use Rattle.keyed_matrix.specs.Views.{plain_row, plain_rows}
use Rattle.keyed_matrix.proofs.TakenApart.{plain-row}
use Rattle.keyed_matrix.proofs.steps.add_moved_expanded.Goals as goal

pub returns-in_ok-push : goal.returns-in_ok-push
returns-in_ok-push g c =
    let row = c.args.row in
    let old = c.args.all.now.items in
    ap plain_rows c.in_ok-push.ensures.items ∙ map-append plain_row old (row ∷ [])
    ∙ ap (λ rs. plain_rows old ++ rs) (sym (plain-row (plain_place c.args.place.now) c.args.i (plain_row row) c.requires
    (sym c.is_or_at.ensures ∙ c.if-is_or_at.false)))
