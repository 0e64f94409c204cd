use Rattle.std.proofs.Common.{◌≡◌, map, drop}
use Rattle.decl_syntax.specs.Items.{arm_view}
use Rattle.decl_parser.specs.ItemWidths.{some_arm_is_wide}
use Rattle.decl_parser.proofs.widths.some_arm_is_wide.Given as goal

abbrev pub invariant-loop-arm : goal.invariant-loop-arm
invariant-loop-arm l = some_arm_is_wide (map arm_view (drop l.arm-index l.arms.items)) ≡ some_arm_is_wide (map arm_view l.arms.items)
