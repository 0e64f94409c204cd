use Rattle.std.proofs.Common.{◌∙◌, ap, sym, subst, take, ◌+◌}
use Rattle.std.proofs.lemmas.List.{length-map}
use Rattle.pat_context.specs.Views.{plain_ctor}
use Rattle.constructor_sets.specs.Columns.{plain_ctors}
use Rattle.constructor_sets.specs.Spans.{plain_span}
use Rattle.pattern_matrix.specs.Views.{plain_leaf, plain_leaves}
use Rattle.pattern_matrix.specs.Halving.{AreLeafSpans}
use Rattle.pattern_matrix.specs.Parts.{plain_spans}
use Rattle.pattern_matrix.proofs.LeafSpans.{span_more, spans_pushed}
use Rattle.pattern_matrix.proofs.spans.leaf_spans.Goals as goal

pub loop-leaf-preserved : goal.loop-leaf-preserved
loop-leaf-preserved g c =
    let pieces = plain_ctors c.args.pieces.now in
    let leaves = c.args.leaves.now in
    let i = c.loop-leaf.leaf-index in
    let found = c.loop-leaf.all.items in
    let span = c.next_span-next.result.0 in
    let next = c.next_span-next.ensures in
    let more =
    span_more plain_leaf pieces leaves i c.leaf-item.result (plain_spans c.args.spans.now) c.loop-leaf.used c.next_span-next.result.1 (plain_span span) (plain_spans found) c.loop-leaf-test.true c.leaf-item.is c.loop-leaf.invariant
    (λ e. let w = next.wild e in (w.0 ∙ ap (λ n. (0, n)) (sym (length-map c.args.pieces.now plain_ctor)), w.1)) next.other in
    (more.0, subst (AreLeafSpans pieces (plain_leaves (take (i + 1) leaves))) (sym (spans_pushed c.push.new.self.items found span c.in_ok-push.ensures.items)) more.1)
