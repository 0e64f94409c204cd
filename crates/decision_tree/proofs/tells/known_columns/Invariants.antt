use Rattle.std.proofs.Common.{◌≡◌, take, map}
use Rattle.std.specs.List.{flat_map}
use Rattle.keyed_matrix.specs.Views.{plain_columns}
use Rattle.decision_tree.specs.Known.{known_column}
use Rattle.decision_tree.specs.KnownViews.{plain_known_columns}
use Rattle.decision_tree.proofs.tells.known_columns.Given as goal

abbrev pub invariant-loop-column : goal.invariant-loop-column
invariant-loop-column g l =
    flat_map plain_known_columns l.all.items ≡ map known_column (plain_columns (take l.column-index l.columns))
