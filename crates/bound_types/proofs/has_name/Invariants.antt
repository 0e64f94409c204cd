use Rattle.std.proofs.Common.{◌≡◌, drop, map}
use Rattle.pattern_arena.specs.Trees.{plain_bound}
use Rattle.bound_types.specs.Types.{has_name}
use Rattle.bound_types.proofs.has_name.Given as goal

abbrev pub invariant-loop-bound : goal.invariant-loop-bound
invariant-loop-bound l =
    has_name l.name (map plain_bound (drop l.bound-index l.binds)) ≡ has_name l.name (map plain_bound l.binds)
