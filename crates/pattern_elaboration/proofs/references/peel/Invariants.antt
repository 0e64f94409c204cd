use Rattle.std.proofs.Common.{◌≡◌, map}
use Rattle.match_model.specs.declared.Mode.{Mode}
use Rattle.match_model.specs.Types.{MType}
use Rattle.match_model.specs.Lists.{Every}
use Rattle.type_table.specs.Tables.{IsOf, table_type}
use Rattle.pattern_rules.specs.Settings.{bottom_type, bottom_mode}
use Rattle.pattern_rules.specs.Builders.{Built, through_type}
use Rattle.pattern_elaboration.specs.Placed.{wrapped}
use Rattle.pattern_elaboration.specs.TypeTests.{point_levels}
use Rattle.pattern_elaboration.proofs.references.peel.Given as goal

abbrev pub invariant-loop-mutable : goal.invariant-loop-mutable
invariant-loop-mutable l = record {
  of : IsOf l.table l.place.ty;
  levels : Every (IsOf l.table) l.levels.items;
  ty : bottom_type (table_type l.table l.place.ty) ≡ bottom_type (table_type l.table l.fn.here.ty);
  mode : bottom_mode (table_type l.table l.place.ty) l.place.mode ≡ bottom_mode (table_type l.table l.fn.here.ty)
      l.fn.here.mode;
  through : (f : MType → Mode → Built) →
      through_type f (table_type l.table l.fn.here.ty) l.fn.here.mode
      ≡ wrapped (map (table_type l.table) l.levels.items) (through_type f (table_type l.table l.place.ty) l.place.mode);
}

abbrev pub decreases-loop-mutable : goal.decreases-loop-mutable
decreases-loop-mutable l = point_levels (table_type l.table l.place.ty)
