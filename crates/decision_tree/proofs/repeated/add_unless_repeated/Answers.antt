use Rattle.std.proofs.Common.{◌++◌, ◌∷◌, [], subst, sym, ap, ◌∙◌}
use Rattle.std.proofs.lemmas.List.{map-append}
use Rattle.match_model.specs.Lists.{Among}
use Rattle.keyed_matrix.specs.Views.{plain_row, plain_rows}
use Rattle.decision_tree.specs.Repeated.{AreLeftOf, one_stays, one_goes}
use Rattle.decision_tree.proofs.repeated.add_unless_repeated.Goals as goal

pub returns-then-repeats_at : goal.returns-then-repeats_at
returns-then-repeats_at g c = λ rows a.
    let r = c.repeats_at.ensures c.if-repeats_at.true in
    one_goes rows (plain_rows c.args.left.now.items) r.0 (plain_row c.args.row) a
    (subst (λ xs. Among r.0 (plain_rows xs)) c.deref.ensures.value r.1) r.2

pub returns : goal.returns
returns g c = λ rows a.
    subst (AreLeftOf (rows ++ plain_row c.args.row ∷ []))
    (sym (ap plain_rows c.in_ok-push.ensures.items ∙ map-append plain_row c.args.left.now.items (c.args.row ∷ [])))
    (one_stays rows (plain_rows c.args.left.now.items) (plain_row c.args.row) a)
