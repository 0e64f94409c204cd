use Rattle.std.proofs.Common.{[], ◌∷◌, ◌++◌, ◌∙◌, ap, sym, subst}
use Rattle.std.specs.List.{All}
use Rattle.std.proofs.lemmas.List.{length-map}
use Rattle.std.proofs.lemmas.List.Elements.{All-nil, All-cons}
use Rattle.constructor_sets.specs.Spans.{plain_span}
use Rattle.pattern_matrix.specs.declared.halving.Part.{Part}
use Rattle.pattern_matrix.specs.Sparse.{columns_from}
use Rattle.pattern_matrix.specs.Halving.{IsPart}
use Rattle.pattern_matrix.specs.Parts.{plain_spans, IsFull}
use Rattle.pattern_matrix.proofs.Halves.{whole_part}
use Rattle.pattern_matrix.proofs.halving.all_parts.Goals as goal

pub returns-in_ok-push-clause-full : goal.returns-in_ok-push-clause-full
returns-in_ok-push-clause-full c =
    let spans = c.args.spans.now in
    let part : Part = record { first = 0; end = c.args.count; leaves = c.in_ok-leaves.leaves } in
    let full : IsFull spans part =
    subst (λ xs. IsPart (plain_spans spans) 0 c.args.count xs) (ap (columns_from 0) (length-map spans plain_span) ∙ sym c.in_ok-leaves.ensures) (whole_part (plain_spans spans) c.args.count c.if-count-gt0.true) in
    subst (All (IsFull spans)) (sym (c.in_ok-push.ensures.items ∙ ap (λ xs. xs ++ part ∷ []) c.new-todo.ensures.items)) (All-cons (IsFull spans) part [] full (All-nil (IsFull spans)))
