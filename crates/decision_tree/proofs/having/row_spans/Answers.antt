use Rattle.std.proofs.Common.{◌∙◌, length, map, subst, sym, ap}
use Rattle.std.proofs.lemmas.List.{length-map}
use Rattle.pat_context.specs.Views.{plain_ctor}
use Rattle.constructor_sets.specs.Columns.{plain_ctors}
use Rattle.constructor_sets.specs.Spans.{AreSpans}
use Rattle.keyed_matrix.specs.Views.{plain_rows}
use Rattle.pattern_matrix.specs.Halving.{leaf_ctors, AreLeafSpans}
use Rattle.pattern_matrix.specs.Parts.{plain_spans}
use Rattle.pattern_matrix.specs.Views.{plain_leaves}
use Rattle.decision_tree.specs.Cuts.{mirrored}
use Rattle.decision_tree.proofs.Cuts.{column-ctors}
use Rattle.decision_tree.proofs.having.row_spans.Goals as goal

pub leaf_spans-requires : goal.leaf_spans-requires
leaf_spans-requires g c =
    let same = ap (λ ls. leaf_ctors (plain_leaves ls)) c.deref.ensures.value ∙ ap leaf_ctors c.in_ok-leaves.ensures
    ∙ column-ctors c.args.i (plain_rows c.args.rows.now) in
    subst (λ hs. AreSpans (plain_ctors c.args.pieces.now) hs (plain_spans c.args.spans.now)) (sym same) c.requires.spans

pub returns : goal.returns
returns g c =
    let pieces = c.args.pieces.now in
    let forward = plain_spans c.in_ok-found.found.items in (
      forward,
      subst (λ ls. AreLeafSpans (plain_ctors pieces) ls forward)
          (ap plain_leaves c.deref.ensures.value ∙ c.in_ok-leaves.ensures) c.in_ok-found.ensures,
      c.in_ok-all.ensures ∙ ap (λ ss. map (mirrored (length pieces)) (plain_spans ss)) c.deref-2.ensures.value
          ∙ ap (λ n. map (mirrored n) forward) (sym (length-map pieces plain_ctor)),
    )
