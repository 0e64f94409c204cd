use Rattle.std.proofs.Common.{◌≡◌, length, take, map}
use Rattle.keyed_matrix.specs.Views.{plain_rows}
use Rattle.decision_tree.specs.Known.{known_row}
use Rattle.decision_tree.specs.KnownViews.{plain_known_rows}
use Rattle.decision_tree.proofs.KnownRows.{size_all}
use Rattle.decision_tree.proofs.tells.known_matrix.Given as goal

abbrev pub invariant-loop-row : goal.invariant-loop-row
invariant-loop-row g l =
    record {
      told : plain_known_rows l.heads.items l.all.items ≡ map known_row (plain_rows (take l.row-index l.rows));
      sizes : length l.heads.items ≡ size_all l.all.items;
    }
