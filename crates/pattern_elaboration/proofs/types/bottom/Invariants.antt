use Rattle.std.proofs.Common.{◌≡◌}
use Rattle.type_table.specs.Tables.{IsOf, table_type}
use Rattle.pattern_rules.specs.Settings.{bottom_type, bottom_mode}
use Rattle.pattern_elaboration.specs.TypeTests.{point_levels}
use Rattle.pattern_elaboration.proofs.types.bottom.Given as goal

abbrev pub invariant-loop-mutable : goal.invariant-loop-mutable
invariant-loop-mutable l = record {
  of : IsOf l.table l.here.ty;
  ty : bottom_type (table_type l.table l.here.ty) ≡ bottom_type (table_type l.table l.fn.place.ty);
  mode : bottom_mode (table_type l.table l.here.ty) l.here.mode ≡ bottom_mode (table_type l.table l.fn.place.ty)
      l.fn.place.mode;
}

abbrev pub decreases-loop-mutable : goal.decreases-loop-mutable
decreases-loop-mutable l = point_levels (table_type l.table l.here.ty)
