use Rattle.std.proofs.Common.{◌≡◌, ◌<◌, ◌∙◌, length, slice_get, subst, sym, ap, arith}
use Rattle.std.specs.List.{All}
use Rattle.std.proofs.lemmas.List.Elements.{All-filter}
use Rattle.pattern_matrix.specs.Halving.{span_has, having, leaves_with, meeting}
use Rattle.pattern_matrix.specs.Parts.{plain_spans}
use Rattle.keyed_matrix.specs.Views.{plain_rows}
use Rattle.decision_tree.specs.Cutting.{AreEnough}
use Rattle.decision_tree.proofs.Enough.{meeting-one}
use Rattle.decision_tree.proofs.cutting.only_piece.Goals as goal

pub first_alone-leaves-requires-clause-within : goal.first_alone-leaves-requires-clause-within
first_alone-leaves-requires-clause-within g c =
    let spans = c.args.spans.now in
    let ss = plain_spans spans in
    let part = c.args.part.now in
    let leaves = part.leaves.items in
    let met : c.in_ok-met.met.items ≡ having ss part.first leaves =
    c.in_ok-met.ensures ∙ ap (meeting ss part.first part.end) c.deref.ensures.value
    ∙ meeting-one ss part.first part.end leaves c.requires.one in
    subst (All (λ k. k < length c.args.rows.now)) (sym met)
    (subst (λ n. All (λ k. k < n) (having ss part.first leaves)) c.requires.spans
    (All-filter (λ k. span_has part.first (slice_get ss k)) (λ k. k < length spans) leaves c.requires.part.within))

pub returns-clause-rows : goal.returns-clause-rows
returns-clause-rows g c =
    let rows = plain_rows c.args.rows.now in
    let ss = plain_spans c.args.spans.now in
    let i = c.args.i in
    let part = c.args.part.now in
    let leaves = part.leaves.items in
    let met : c.in_ok-met.met.items ≡ having ss part.first leaves =
    c.in_ok-met.ensures ∙ ap (meeting ss part.first part.end) c.deref.ensures.value
    ∙ meeting-one ss part.first part.end leaves c.requires.one in
    c.first_alone-leaves.ensures (leaves_with ss part.first)
    (subst (λ xs. AreEnough i rows xs (leaves_with ss part.first)) (sym met)
    (c.requires.part.enough part.first (omega arith) c.requires.part.some))
