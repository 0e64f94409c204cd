use Rattle.std.proofs.Common.{rules, List, sym, subst}
use Rattle.std.specs.Ordering.{is_lt}
use Rattle.std.proofs.lemmas.List.Sorted.{ranks_by}
use Rattle.std.proofs.lemmas.Fn.{always_returns_same}
use Rattle.match_model.specs.Lists.{Ordered}
use Rattle.match_model.specs.RowOrder.{AreInOrder}
use Rattle.keyed_matrix.specs.declared.rows.KeyedRow.{KeyedRow}
use Rattle.keyed_matrix.specs.Deciding.{table_decides}
use Rattle.keyed_matrix.specs.Turns.{turn_cmp, turn_rows, IsOneFirst}
use Rattle.keyed_matrix.specs.Views.{plain_rows}
use Rattle.keyed_matrix.proofs.Comparing.{turns-total}
use Rattle.keyed_matrix.proofs.Sorting.{rows-sorted}
use Rattle.keyed_matrix.proofs.order.in_order.Goals as goal

pub returns : goal.returns
returns g c =
    let decides = table_decides c.args.decisions.now in
    let old = c.in_ok-turns.turns.items in
    let new = c.sort_by.new.self.items in
    let same = c.in_ok-turns.ensures.rows in
    let up = c.in_ok-sort_by.ensures.sorted (λ a b. is_lt (turn_cmp a b)) (ranks_by turns-total (λ x. x))
    (always_returns_same _ _ _ (λ a r f k. search rules)) in
    subst (λ (rs : List (KeyedRow g.row.T.Denot)). AreInOrder decides (plain_rows rs) (plain_rows c.in_ok-sorted.sorted.items)) same
    (subst (λ (rs : List (KeyedRow g.row.T.Denot)). AreInOrder decides (plain_rows (turn_rows old)) (plain_rows rs))
    (sym c.in_ok-sorted.ensures)
    (rows-sorted decides old new c.in_ok-turns.ensures.keys
    (subst (λ (rs : List (KeyedRow g.row.T.Denot)). Ordered (IsOneFirst decides) (plain_rows rs)) (sym same) c.requires)
    c.sort_by.ensures.permutation up))
