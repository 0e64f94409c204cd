use Rattle.std.proofs.Common.{◌≡◌, drop}
use Rattle.match_model.specs.Lowering.{all_wild_at}
use Rattle.keyed_matrix.specs.Views.{plain_rows}
use Rattle.keyed_matrix.proofs.looking.are_wild.Given as goal

abbrev pub invariant-loop-row : goal.invariant-loop-row
invariant-loop-row g l = all_wild_at l.i (plain_rows (drop l.row-index l.rows)) ≡ all_wild_at l.i (plain_rows l.rows)
