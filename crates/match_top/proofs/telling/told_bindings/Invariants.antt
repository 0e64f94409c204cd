use Rattle.std.proofs.Common.{◌≡◌, map, take}
use Rattle.first_match.specs.Selections.{plain_held}
use Rattle.pattern_arena.specs.Trees.{plain_match}
use Rattle.verdict_json.specs.OutcomeTrees.{held_view}
use Rattle.match_top.specs.Telling.{told_binding, type_told}
use Rattle.match_top.proofs.telling.told_bindings.Given as goal

abbrev pub invariant-loop-held : goal.invariant-loop-held
invariant-loop-held l =
    map held_view l.all.items
    ≡ map (λ b. told_binding l.table (type_told (plain_match l.m) l.arm.arm b.name) b) (map plain_held (take l.held-index l.held-items))
