use Rattle.std.proofs.Common.{◌+◌, ◌-◌, ◌/◌, ◌++◌, ◌∙◌, ap, sym, subst, arith, append_assoc}
use Rattle.std.specs.List.{All}
use Rattle.std.proofs.lemmas.List.Elements.{All-push}
use Rattle.keyed_matrix.specs.Views.{plain_rows}
use Rattle.pattern_matrix.specs.declared.halving.Part.{Part}
use Rattle.pattern_matrix.specs.Sparse.{columns_from}
use Rattle.pattern_matrix.specs.Parts.{pieces_left}
use Rattle.pattern_matrix.proofs.Halves.{split_pieces, left-push}
use Rattle.decision_tree.specs.Cutting.{IsCutPart, IsCutTo}
use Rattle.decision_tree.proofs.Enough.{cut-half}
use Rattle.decision_tree.proofs.cutting.halved.Goals as goal

pub returns-clause-part : goal.returns-clause-part
returns-clause-part g c =
    let p = c.args.part in
    let middle = p.first + (p.end - p.first) / 2 in
    let left : Part = record { first = p.first; end = middle; leaves = c.in_ok-leaves.leaves } in
    let several = c.requires.several in
    cut-half c.args.i (plain_rows c.args.rows.now) c.args.spans.now p left (omega arith) (omega (arith, several)) (omega (arith, several))
    c.requires.part c.in_ok-leaves.ensures

pub returns-clause-pieces : goal.returns-clause-pieces
returns-clause-pieces g c =
    let first = c.args.part.first in
    let end = c.args.part.end in
    let middle = first + (end - first) / 2 in
    let right : Part = record { first = middle; end = end; leaves = c.in_ok-others.others } in
    let old = c.args.todo.now.items in
    ap (λ xs. columns_from first (middle - first) ++ pieces_left xs) c.in_ok-push.ensures.items
    ∙ ap (λ ys. columns_from first (middle - first) ++ ys) (left-push old right)
    ∙ sym (append_assoc (columns_from first (middle - first)) (columns_from middle (end - middle)) (pieces_left old))
    ∙ ap (λ xs. xs ++ pieces_left old) (sym (split_pieces first middle end (omega arith) (omega arith)))

pub returns-clause-others : goal.returns-clause-others
returns-clause-others g c = λ h.
    let p = c.args.part in
    let i = c.args.i in
    let rows = plain_rows c.args.rows.now in
    let spans = c.args.spans.now in
    let middle = p.first + (p.end - p.first) / 2 in
    let right : Part = record { first = middle; end = p.end; leaves = c.in_ok-others.others } in
    let several = c.requires.several in
    let copied = c.in_ok-others.ensures.items ∙ c.deref.ensures.value in
    let cut : IsCutTo i rows spans p.first p.end p.leaves.items c.in_ok-others.others.items =
    subst (IsCutTo i rows spans p.first p.end p.leaves.items) (sym copied) c.in_ok-leaves.ensures in
    let half = cut-half i rows spans p right (omega arith) (omega (arith, several)) (omega arith) c.requires.part cut in
    subst (All (IsCutPart i rows spans)) (sym c.in_ok-push.ensures.items)
    (All-push (IsCutPart i rows spans) c.args.todo.now.items right h half)
