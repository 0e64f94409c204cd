use Rattle.std.proofs.Common.{◌≡◌, map, take}
use Rattle.tree_eval.specs.Views.{plain_value}
use Rattle.tree_eval.proofs.value.+copying.Given as goal

abbrev pub invariant-copy_values-loop-v : goal.invariant-copy_values-loop-v
invariant-copy_values-loop-v l = map plain_value l.all.items ≡ map plain_value (take l.v-index l.values)
