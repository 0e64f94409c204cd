use Rattle.std.proofs.Common.{◌≡◌, false, map, take}
use Rattle.std.specs.List.{list_any}
use Rattle.decl_syntax.specs.Items.{item_view}
use Rattle.type_names.specs.SomeRule.{breaks_some}
use Rattle.type_names.proofs.item_rules.some_fault.Given as goal

abbrev pub invariant-loop-item : goal.invariant-loop-item
invariant-loop-item l = list_any (breaks_some (map item_view l.items)) (map item_view (take l.item-index l.items)) ≡ false
