use Rattle.std.proofs.Common.{◌≡◌, ◌++◌, drop}
use Rattle.pattern_matrix.specs.Views.{plain_rows}
use Rattle.usefulness.specs.Covering.{asking_columns, asking_rows}
use Rattle.witness_search.specs.Asks.{shown_of, listed_of}
use Rattle.witness_search.proofs.asking.asked_rows.Given as goal

abbrev pub invariant-loop-row : goal.invariant-loop-row
invariant-loop-row g l =
    (asking_rows l.asking ++ listed_of (plain_rows (drop l.row-index l.rows)) ≡ listed_of (plain_rows l.rows))
    × (asking_columns l.asking ≡ shown_of l.opened.items)
    × (l.asking.next ≡ l.next)
