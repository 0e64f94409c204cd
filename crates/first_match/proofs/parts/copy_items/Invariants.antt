use Rattle.std.proofs.Common.{◌≡◌, map, take}
use Rattle.tree_eval.specs.Views.{plain_value}
use Rattle.first_match.proofs.parts.copy_items.Given as goal

abbrev pub invariant-loop-item : goal.invariant-loop-item
invariant-loop-item l = map plain_value l.all.items ≡ map plain_value (take l.item-index l.items)
