use Rattle.std.proofs.Common.{◌≡◌, ◌≤◌, map, drop, length}
use Rattle.match_model.specs.ArenaWays.{arena_arm}
use Rattle.match_model.specs.Select.{select_from, tries_from}
use Rattle.pattern_arena.specs.Trees.{plain_arm}
use Rattle.tree_eval.specs.Views.{plain_value}
use Rattle.first_match.specs.Asking.{after_asking}
use Rattle.first_match.specs.Selections.{arm_view}
use Rattle.first_match.proofs.selecting.select.Given as goal

abbrev pub invariant-loop-arm : goal.invariant-loop-arm
invariant-loop-arm g l =
    (l.number ≡ l.arm-index) × (length l.asked.items ≤ length l.answers) ×
    (after_asking (map arm_view l.asked.items) (select_from
    (tries_from l.arm-index (map arena_arm (map plain_arm (drop l.arm-index l.m.arms.now))) (plain_value l.value))
    (drop (length l.asked.items) l.answers))
    ≡ select_from (tries_from 0 (map arena_arm (map plain_arm l.m.arms.now)) (plain_value l.value)) l.answers)
