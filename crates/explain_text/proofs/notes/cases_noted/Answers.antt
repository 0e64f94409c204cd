use Rattle.explain_text.proofs.Noting.{cases_added}
use Rattle.explain_text.proofs.notes.cases_noted.Goals as goal

pub returns : goal.returns
returns c =
    cases_added c.args.function.now c.args.witnesses.now _ _ _ _ _ c.min-shown.result c.min-shown.ensures c.new-notes.ensures.items c.in_ok-add_cases.ensures
    c.in_ok-add_more.ensures c.in_ok-count_note.ensures c.in_ok-push.ensures.items
