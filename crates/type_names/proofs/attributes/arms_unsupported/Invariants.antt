use Rattle.std.proofs.Common.{◌≡◌, false, map, take}
use Rattle.std.specs.List.{list_any}
use Rattle.decl_syntax.specs.Items.{arm_view}
use Rattle.type_names.specs.Attributes.{arm_unsupported}
use Rattle.type_names.proofs.attributes.arms_unsupported.Given as goal

abbrev pub invariant-loop-arm : goal.invariant-loop-arm
invariant-loop-arm l = list_any arm_unsupported (map arm_view (take l.arm-index l.arms)) ≡ false
