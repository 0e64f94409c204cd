use Rattle.std.proofs.Common.{length, sym, subst}
use Rattle.pattern_matrix.specs.Sparse.{AreHeadsBelow}
use Rattle.pattern_matrix.specs.HeadLists.{kept_heads}
use Rattle.pattern_matrix.specs.Views.{plain_heads}
use Rattle.usefulness.proofs.Noting.{next_below}
use Rattle.usefulness.proofs.compact.used_columns.Goals as goal

pub note_heads-requires : goal.note_heads-requires
note_heads-requires g c =
    let loop = c.loop-asked in
    let row = c.asked-item.result in
    subst (λ hs. AreHeadsBelow (length loop.used.items) (plain_heads hs)) (sym c.as_slice.ensures)
    (subst (λ n. AreHeadsBelow n (plain_heads (kept_heads row.row.heads))) (sym loop.invariant.0)
    (next_below c.args.next c.args.rows.now loop.asked-index row c.requires c.loop-asked-test.true c.asked-item.is))
