use Rattle.std.proofs.Common.{◌≡◌, length, arith}
use Rattle.std.proofs.lemmas.List.{length-map}
use Rattle.constructor_sets.specs.Columns.{plain_ctors}
use Rattle.constructor_sets.specs.Spans.{plain_span}
use Rattle.pattern_matrix.specs.Views.{plain_leaf, plain_leaves}
use Rattle.pattern_matrix.specs.Parts.{plain_spans}
use Rattle.pattern_matrix.proofs.LeafSpans.{whole_spans}
use Rattle.pattern_matrix.proofs.spans.into_leaf_spans.Goals as goal

pub returns-then-len-leaves : goal.returns-then-len-leaves
returns-then-len-leaves g c =
    let spans = c.args.spans.items in
    let leaves = c.args.leaves.now in
    let many : length (plain_spans spans) ≡ length (plain_leaves leaves) = omega (arith, c.if-len-leaves.true, c.len.ensures, c.args.spans.ok.0, length-map spans plain_span, length-map leaves plain_leaf) in
    whole_spans (plain_ctors c.args.pieces.now) (plain_leaves leaves) (plain_spans spans) c.requires many
