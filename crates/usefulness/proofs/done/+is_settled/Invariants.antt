use Rattle.std.proofs.Common.{◌≡◌, map, drop}
use Rattle.pattern_arena.specs.Trees.{tree, placed_subs}
use Rattle.usefulness.specs.Marking.{is_marked}
use Rattle.usefulness.specs.Done.{choices_within, are_marked}
use Rattle.usefulness.proofs.Settled.{choices_listed}
use Rattle.usefulness.proofs.done.+is_settled.Given as goal

abbrev pub invariant-loop-q : goal.invariant-loop-q
invariant-loop-q g l =
    are_marked (is_marked l.marks) l.arm (choices_listed l.choice (map tree (drop l.q-index (placed_subs l.p)))) ≡ are_marked (is_marked l.marks) l.arm (choices_within (tree l.p))
