use Rattle.std.proofs.Common.{◌<◌, ◌++◌, ◌∷◌, ◌∙◌, [], List, length, take, subst, sym, ap, arith, get_or}
use Rattle.std.specs.List.{All}
use Rattle.std.proofs.lemmas.List.{take_more}
use Rattle.std.proofs.lemmas.List.Elements.{All-cons, All-head, All-nil, All-tail}
use Rattle.constructor_sets.specs.declared.piece.Span.{Span}
use Rattle.constructor_sets.specs.Spans.{plain_span}
use Rattle.pattern_matrix.specs.Halving.{span_meets}
use Rattle.pattern_matrix.specs.Parts.{plain_spans}
use Rattle.pattern_matrix.proofs.Getting.{got-read}
use Rattle.keyed_matrix.specs.Views.{plain_rows}
use Rattle.decision_tree.specs.Cutting.{TakesMet}
use Rattle.decision_tree.proofs.Enough.{enough-to, covers-meets}
use Rattle.decision_tree.proofs.cutting.count_enough.Goals as goal

both-parts : {A : Type 0} (P : A → Type 0) (xs : List A) (x : A) → All P (xs ++ x ∷ []) → All P xs × P x
both-parts P [] x h = (All-nil P, All-head P x [] h)
both-parts P (y ∷ xs) x h =
    let r = both-parts P xs x (All-tail P y (xs ++ x ∷ []) h) in
    (All-cons P y xs (All-head P y (xs ++ x ∷ []) h) r.0, r.1)

pub returns-then-covers-clause-enough : goal.returns-then-covers-clause-enough
returns-then-covers-clause-enough g c =
    let rows = c.args.rows.now in
    let spans = c.args.spans.now in
    let part = c.args.part.now in
    let k = c.index-k.result.now in
    let n = c.loop-n.n in
    let none : Span = record { first = 0; end = 0 } in
    let span = get_or spans k none in
    let l : n < length part.leaves.items = omega (arith, c.loop-n-test.true, c.len-count.ensures) in
    let below : k < length spans = subst (λ q. q < length spans) (sym c.index-k.ensures) (c.requires.within n k l) in
    let got = got-read plain_span spans k none below in
    let covers = sym c.covers.ensures ∙ c.if-covers.true in
    let parts = both-parts (TakesMet c.args.i (plain_rows rows) (plain_spans spans) part.first part.end)
    (take n part.leaves.items) k
    (subst (All (TakesMet c.args.i (plain_rows rows) (plain_spans spans) part.first part.end))
    (take_more part.leaves.items n k l ∙ ap (λ x. take n part.leaves.items ++ x ∷ []) (sym c.index-k.ensures))
    (c.have_open.ensures c.if-have_open.false)) in
    let takes = parts.1
    (ap (span_meets part.first part.end) got ∙ covers-meets part.first part.end span.first span.end c.requires.some covers) in
    enough-to c.args.i (plain_rows rows) (plain_spans spans) part.first part.end part.leaves.items n k l c.index-k.ensures
    parts.0 takes (plain_span span) got covers
