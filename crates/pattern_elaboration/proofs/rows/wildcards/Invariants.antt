use Rattle.std.proofs.Common.{◌≡◌, ◌-◌, ◌≤◌, map, take, drop}
use Rattle.match_model.specs.Types.{types_list}
use Rattle.match_model.specs.Constructors.{WildCtor}
use Rattle.match_model.specs.Declarations.{node_types}
use Rattle.type_table.specs.Tables.{IsOf, table_program, table_type}
use Rattle.pattern_rules.specs.Builders.{leaf, types_or_none}
use Rattle.pattern_elaboration.specs.Numbered.{AreMade}
use Rattle.pattern_elaboration.specs.Given.{trees, given}
use Rattle.pattern_elaboration.proofs.rows.wildcards.Given as goal

abbrev pub invariant-loop-i : goal.invariant-loop-i
invariant-loop-i l = record {
  shown : given (table_type l.table) l.all.items
      ≡ map (leaf WildCtor) (take (l.i - l.front) (drop l.front
      (types_list (types_or_none (node_types (table_program l.table) (table_type l.table l.ty) 0)))));
  within : l.i - l.front ≤ l.end - l.front;
  made : AreMade (IsOf l.table) l.initial.next l.next (trees l.all.items);
}
