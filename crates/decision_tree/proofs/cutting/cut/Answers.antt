use Rattle.std.proofs.Common.{◌≡◌, ◌<◌, ◌∙◌, length, take, slice_get, subst, sym, ap}
use Rattle.std.specs.List.{All}
use Rattle.std.proofs.lemmas.List.Elements.{All-filter, All-take}
use Rattle.pattern_matrix.specs.Halving.{span_meets, having, meeting}
use Rattle.pattern_matrix.specs.Parts.{plain_spans}
use Rattle.keyed_matrix.specs.Views.{plain_rows}
use Rattle.decision_tree.specs.Cutting.{AreEnough}
use Rattle.decision_tree.proofs.Enough.{meeting-has}
use Rattle.decision_tree.proofs.cutting.cut.Goals as goal

pub returns : goal.returns
returns g c =
    let rows = plain_rows c.args.rows.now in
    let spans = c.args.spans.now in
    let ss = plain_spans spans in
    let i = c.args.i in
    let first = c.args.part.now.first in
    let end = c.args.part.now.end in
    let leaves = c.args.part.now.leaves.items in
    let n = c.count_enough-count.result in
    let kept = c.in_ok-leaves.leaves.items in
    let same : kept ≡ meeting ss first end (take n leaves) =
    c.in_ok-leaves.ensures ∙ ap (λ xs. meeting ss first end (take n xs)) c.deref.ensures.value in
    record {
      within = subst (All (λ k. k < length spans)) (sym same)
          (All-filter (λ k. span_meets first end (slice_get ss k)) (λ k. k < length spans) (take n leaves)
          (All-take (λ k. k < length spans) n leaves c.requires.within));
      enough = λ j a b.
          subst (λ xs. AreEnough i rows (having ss j xs) (having ss j leaves)) (sym same)
          (subst (λ xs. AreEnough i rows xs (having ss j leaves)) (sym (meeting-has ss first end j (take n leaves) a b))
          (c.count_enough-count.ensures.enough j a b));
    }
