use Rattle.std.proofs.Common.{◌≡◌, ◌≤◌}
use Rattle.type_table.specs.Tables.{IsOf, table_program, table_type}
use Rattle.witnesses.specs.Views.{plain_witness}
use Rattle.witnesses.specs.declared.witness.Witness.{size-Witness}
use Rattle.witness_names.specs.declared.paths.Paths.{Paths}
use Rattle.witness_names.specs.Points.{named_behind}
use Rattle.witness_names.proofs.naming.behind_points.Given as goal

abbrev pub invariant-loop-here : goal.invariant-loop-here
invariant-loop-here l = record {
  of : IsOf l.table l.behind;
  named : (paths : Paths) → named_behind paths (table_program l.table) (plain_witness l.here) (table_type l.table l.behind)
      ≡ named_behind paths (table_program l.table) (plain_witness l.fn.witness) (table_type l.table l.fn.ty);
  size : size-Witness l.here ≤ size-Witness l.fn.witness;
}
