use Rattle.std.proofs.Common.{◌≡◌, drop}
use Rattle.std.specs.List.{list_any}
use Rattle.pattern_matrix.specs.Views.{plain_rows}
use Rattle.witness_search.specs.Starts.{lists_none}
use Rattle.witness_search.proofs.rows.has_bare.Given as goal

abbrev pub invariant-loop-row : goal.invariant-loop-row
invariant-loop-row g l = list_any lists_none (plain_rows (drop l.row-index l.rows)) ≡ list_any lists_none (plain_rows l.rows)
