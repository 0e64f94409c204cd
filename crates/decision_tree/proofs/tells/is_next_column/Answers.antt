use Rattle.std.proofs.Common.{sym, ◌∙◌}
use Rattle.pat_context.specs.Views.{plain_place, is_sure}
use Rattle.decision_tree.proofs.KnownColumns.{same-validity, columns-go-on}
use Rattle.decision_tree.proofs.tells.is_next_column.Goals as goal

pub returns-then-eq : goal.returns-then-eq
returns-then-eq g c = λ e.
    let columns = c.args.columns.now in
    let column = c.args.column.now in
    columns-go-on (plain_place columns.place.now) (plain_place column.place.now) (is_sure columns.validity)
    (is_sure column.validity) columns.count
    (same-validity columns.validity column.validity (sym c.eq.ensures ∙ c.if-eq.true))
    (c.is_place_after.ensures e)
