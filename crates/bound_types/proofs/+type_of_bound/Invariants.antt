use Rattle.std.proofs.Common.{◌≡◌}
use Rattle.pattern_arena.specs.Trees.{placed_subs}
use Rattle.bound_types.proofs.Preorder.{from_on}
use Rattle.bound_types.proofs.+type_of_bound.Given as goal

abbrev pub invariant-loop-sub : goal.invariant-loop-sub
invariant-loop-sub g l = from_on (placed_subs l.pat) l.name l.sub-index ≡ from_on (placed_subs l.pat) l.name 0
