use Rattle.std.proofs.Common.{◌≡◌, map, take}
use Rattle.first_match.specs.Selections.{arm_view}
use Rattle.pattern_arena.specs.Trees.{plain_match}
use Rattle.verdict_json.specs.OutcomeTrees.{asked_view}
use Rattle.match_top.specs.Telling.{AreTypesIn, told_asked}
use Rattle.match_top.proofs.telling.told_asked.Given as goal

abbrev pub invariant-loop-arm : goal.invariant-loop-arm
invariant-loop-arm l =
    (map asked_view l.all.items ≡ map (told_asked l.table (plain_match l.m)) (map arm_view (take l.arm-index l.arms)))
    × AreTypesIn (plain_match l.m) l.types.arm l.types.types
