use Rattle.std.proofs.Common.{◌≡◌, None, map, drop}
use Rattle.decl_syntax.specs.Items.{arm_view}
use Rattle.type_table.specs.Tables.{table_type}
use Rattle.pattern_rules.specs.Settings.{Setting}
use Rattle.pattern_rules.specs.Faults.{nodes_of_arms, node_rules, alternative_rules}
use Rattle.pattern_rules.specs.FirstFault.{first_at}
use Rattle.pattern_check.specs.Checking.{IsSettingOf}
use Rattle.pattern_check.proofs.function.arms_alternatives.Given as goal

abbrev pub invariant-loop-arm : goal.invariant-loop-arm
invariant-loop-arm l = record {
  number : l.number ≡ l.arm-index;
  fine : (s : Setting) → IsSettingOf l.table s → first_at node_rules s (nodes_of_arms s (table_type l.table l.ty) 0 (map arm_view l.arms)) ≡ None →
      first_at node_rules s (nodes_of_arms s (table_type l.table l.ty) l.arm-index (map arm_view (drop l.arm-index l.arms))) ≡ None;
  told : (s : Setting) → IsSettingOf l.table s → first_at node_rules s (nodes_of_arms s (table_type l.table l.ty) 0 (map arm_view l.arms)) ≡ None →
      first_at alternative_rules s (nodes_of_arms s (table_type l.table l.ty) 0 (map arm_view l.arms))
      ≡ first_at alternative_rules s (nodes_of_arms s (table_type l.table l.ty) l.arm-index (map arm_view (drop l.arm-index l.arms)));
}
