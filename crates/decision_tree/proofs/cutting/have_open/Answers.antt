use Rattle.std.proofs.Common.{◌≡◌, ◌<◌, ◌∙◌, length, take, subst, sym, arith, get_or}
use Rattle.std.specs.List.{All}
use Rattle.std.proofs.lemmas.List.Elements.{All-more}
use Rattle.constructor_sets.specs.declared.piece.Span.{Span}
use Rattle.constructor_sets.specs.Spans.{plain_span}
use Rattle.pattern_matrix.specs.Parts.{plain_spans}
use Rattle.pattern_matrix.proofs.Getting.{got-read}
use Rattle.keyed_matrix.specs.Views.{plain_rows}
use Rattle.keyed_matrix.proofs.RowSteps.{longer-row}
use Rattle.decision_tree.specs.Cutting.{TakesMet}
use Rattle.decision_tree.proofs.Enough.{takes-met}
use Rattle.decision_tree.proofs.cutting.have_open.Goals as goal

pub is_open-requires : goal.is_open-requires
is_open-requires g c =
    let spans = c.args.spans.now in
    let k = c.index-k.result.now in
    let n = c.loop-n.n in
    let l : n < length c.args.part.now.leaves.items = omega (arith, c.loop-n-test.true, c.requires.count) in
    let below : k < length spans = subst (λ q. q < length spans) (sym c.index-k.ensures) (c.requires.within n k l) in
    longer-row c.args.i c.args.rows.now k c.index-rows-k.result c.requires.longer (omega (arith, below, c.requires.spans)) c.index-rows-k.is

pub loop-n-preserved : goal.loop-n-preserved
loop-n-preserved g c =
    let rows = c.args.rows.now in
    let spans = c.args.spans.now in
    let part = c.args.part.now in
    let k = c.index-k.result.now in
    let n = c.loop-n.n in
    let none : Span = record { first = 0; end = 0 } in
    let l : n < length part.leaves.items = omega (arith, c.loop-n-test.true, c.requires.count) in
    let below : k < length spans = subst (λ q. q < length spans) (sym c.index-k.ensures) (c.requires.within n k l) in
    let takes = takes-met c.args.i rows (plain_spans spans) part.first part.end k c.index-rows-k.result (plain_span (get_or spans k none))
    (omega (arith, below, c.requires.spans)) c.index-rows-k.is (got-read plain_span spans k none below)
    (sym c.is_open.ensures ∙ c.if-is_open.false) in
    All-more (TakesMet c.args.i (plain_rows rows) (plain_spans spans) part.first part.end) part.leaves.items n k l c.loop-n.invariant
    (subst (TakesMet c.args.i (plain_rows rows) (plain_spans spans) part.first part.end) c.index-k.ensures takes)

pub returns : goal.returns
returns g c = λ none.
    let part = c.args.part.now in
    let all : c.loop-n.n ≡ c.args.count = omega (arith, c.loop-n-test.false, c.loop-n.auto.n-end) in
    subst (λ n. All (TakesMet c.args.i (plain_rows c.args.rows.now) (plain_spans c.args.spans.now) part.first part.end)
    (take n part.leaves.items)) all c.loop-n.invariant
