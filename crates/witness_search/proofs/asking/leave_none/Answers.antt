use Rattle.std.proofs.Common.{List, ap, sym, ◌∙◌}
use Rattle.std.specs.List.{list_any}
use Rattle.pattern_matrix.specs.Views.{plain_rows}
use Rattle.pattern_matrix.specs.declared.rows.Row.{Row}
use Rattle.witness_search.specs.Opened.{places_of, numbers_of}
use Rattle.witness_search.specs.Starts.{lists_none}
use Rattle.witness_search.proofs.Ends.{bare_found}
use Rattle.witness_search.proofs.asking.leave_none.Goals as goal

pub returns-then-has_bare-clause-none : goal.returns-then-has_bare-clause-none
returns-then-has_bare-clause-none g c =
    let cx = c.args.cx.now in
    let opened = c.args.opened.now.items in
    λ yes.
    bare_found (g.C.PatCx.context cx) (g.C.PatCx.is_value cx) (places_of opened) (numbers_of opened) (plain_rows c.args.rows.now.items) c.requires.1.1.1.0.as_many
    (sym (c.has_bare.ensures ∙ ap (λ (rs : List (Row g.row.C-Ty.Denot)). list_any lists_none (plain_rows rs)) c.deref.ensures.value) ∙ c.if-has_bare.true)
