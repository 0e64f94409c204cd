use Rattle.std.proofs.Common.{◌≡◌, ◌++◌}
use Rattle.type_table.specs.Tables.{IsOf, table_type}
use Rattle.witnesses.specs.Views.{plain_witness}
use Rattle.witness_names.specs.Points.{point_kinds}
use Rattle.witness_names.proofs.naming.point_kinds.Given as goal

abbrev pub invariant-loop-here : goal.invariant-loop-here
invariant-loop-here l = record {
  of : IsOf l.table l.behind;
  kinds : l.kinds.items ++ point_kinds (plain_witness l.here) (table_type l.table l.behind)
      ≡ point_kinds (plain_witness l.fn.witness) (table_type l.table l.fn.ty);
}
