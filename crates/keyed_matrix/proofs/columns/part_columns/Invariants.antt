use Rattle.std.proofs.Common.{◌≡◌, ◌++◌, ◌∷◌, []}
use Rattle.match_model.specs.Matrices.{column_at, part_step, open_of}
use Rattle.match_model.specs.Rows.{part_open}
use Rattle.match_model.specs.Pieces.{each_below}
use Rattle.pat_context.specs.Views.{plain_ctor}
use Rattle.keyed_matrix.specs.Views.{plain_column, plain_columns}
use Rattle.keyed_matrix.proofs.columns.part_columns.Given as goal

abbrev pub invariant-loop-k : goal.invariant-loop-k
invariant-loop-k g l =
    record {
      columns : plain_columns l.all.items
          ≡ each_below (λ i. column_at ((plain_column l.column).place ++ part_step (plain_ctor l.piece) i ∷ [])
          (part_open (g.C.PatCx.context l.cx) (open_of (plain_column l.column)) (plain_ctor l.piece) i)) l.k;
      steps : l.steps.items ≡ l.column.place.now;
    }
