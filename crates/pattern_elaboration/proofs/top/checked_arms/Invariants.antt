use Rattle.std.proofs.Common.{map, take}
use Rattle.match_model.specs.Lists.{Each}
use Rattle.decl_syntax.specs.Items.{arm_view}
use Rattle.pattern_arena.specs.Trees.{plain_arm}
use Rattle.type_table.specs.Tables.{IsOf, table_type}
use Rattle.pattern_elaboration.specs.Arms.{IsArmShown, arm_trees}
use Rattle.pattern_elaboration.specs.Numbered.{AreMade}
use Rattle.pattern_elaboration.proofs.top.checked_arms.Given as goal

abbrev pub invariant-loop-arm : goal.invariant-loop-arm
invariant-loop-arm l = record {
  shown : Each (IsArmShown l.table (table_type l.table l.ty)) (map arm_view (take l.arm-index l.arms))
      (map plain_arm l.checked.items);
  made : AreMade (IsOf l.table) 0 l.next (arm_trees l.checked.items);
}
