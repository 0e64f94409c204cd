use Rattle.std.proofs.Common.{◌≡◌, ◌+◌, ◌-◌, ◌/◌, ◌++◌, ◌∙◌, ap, sym, subst, arith, append_assoc}
use Rattle.std.specs.List.{All}
use Rattle.std.proofs.lemmas.List.Elements.{All-push}
use Rattle.pattern_matrix.specs.declared.halving.Part.{Part}
use Rattle.pattern_matrix.specs.Sparse.{columns_from}
use Rattle.pattern_matrix.specs.Halving.{IsPart, meeting}
use Rattle.pattern_matrix.specs.Parts.{plain_spans, IsFull, pieces_left}
use Rattle.pattern_matrix.proofs.Halves.{half, split_pieces, left-push}
use Rattle.pattern_matrix.proofs.halving.halved.Goals as goal

pub returns-clause-full : goal.returns-clause-full
returns-clause-full c =
    let first = c.args.part.first in
    let end = c.args.part.end in
    let middle = first + (end - first) / 2 in
    let ss = plain_spans c.args.spans.now in
    let met : c.keep_meeting.new.numbers.items ≡ meeting ss first end c.args.part.leaves.items = c.keep_meeting.ensures in
    subst (λ xs. IsPart ss first middle xs) (sym met) (half ss first end first middle c.args.part.leaves.items c.requires.full (omega arith) (omega arith) (omega arith))

pub returns-clause-pieces : goal.returns-clause-pieces
returns-clause-pieces c =
    let first = c.args.part.first in
    let end = c.args.part.end in
    let middle = first + (end - first) / 2 in
    let right : Part = record { first = middle; end = end; leaves = c.in_ok-others.others } in
    let old = c.args.todo.now.items in
    ap (λ xs. columns_from first (middle - first) ++ pieces_left xs) c.in_ok-push.ensures.items
    ∙ ap (λ ys. columns_from first (middle - first) ++ ys) (left-push old right)
    ∙ sym (append_assoc (columns_from first (middle - first)) (columns_from middle (end - middle)) (pieces_left old))
    ∙ ap (λ xs. xs ++ pieces_left old) (sym (split_pieces first middle end (omega arith) (omega arith)))

pub returns-clause-others : goal.returns-clause-others
returns-clause-others c = λ h.
    let first = c.args.part.first in
    let end = c.args.part.end in
    let middle = first + (end - first) / 2 in
    let ss = plain_spans c.args.spans.now in
    let right : Part = record { first = middle; end = end; leaves = c.in_ok-others.others } in
    let met : c.in_ok-others.others.items ≡ meeting ss first end c.args.part.leaves.items =
    c.in_ok-others.ensures.items ∙ c.deref.ensures.value ∙ c.keep_meeting.ensures in
    let full : IsFull c.args.spans.now right =
    subst (λ xs. IsPart ss middle end xs) (sym met) (half ss first end middle end c.args.part.leaves.items c.requires.full (omega arith) (omega arith) (omega arith)) in
    subst (All (IsFull c.args.spans.now)) (sym c.in_ok-push.ensures.items) (All-push (IsFull c.args.spans.now) c.args.todo.now.items right h full)
