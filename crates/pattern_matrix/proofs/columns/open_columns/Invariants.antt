use Rattle.std.proofs.Common.{◌≡◌, ◌++◌}
use Rattle.match_model.specs.Rows.{part_open}
use Rattle.match_model.specs.Pieces.{each_below}
use Rattle.pat_context.specs.Views.{plain_ctor}
use Rattle.pattern_matrix.specs.Columns.{plain_column, plain_columns}
use Rattle.pattern_matrix.proofs.columns.open_columns.Given as goal

abbrev pub invariant-loop-i : goal.invariant-loop-i
invariant-loop-i g l =
    plain_columns l.columns.items ≡ plain_columns l.initial.columns.items ++ each_below (part_open (g.C.PatCx.context l.cx) (plain_column l.column) (plain_ctor l.piece)) l.i
