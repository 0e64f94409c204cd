use Rattle.std.proofs.Common.{◌≡◌, ℕ, List, drop, map}
use Rattle.std.specs.Option.{option_or}
use Rattle.indexmap.specs.IndexMap.{get_by_text}
use Rattle.match_model.specs.Places.{some_if}
use Rattle.pattern_arena.specs.Trees.{plain_bound}
use Rattle.bound_types.specs.Types.{has_name}
use Rattle.bound_types.proofs.types.note_names.Given as goal

abbrev pub invariant-loop-bound : goal.invariant-loop-bound
invariant-loop-bound g l =
    (q : List ℕ) → option_or (get_by_text l.types q)
    (some_if (has_name q (map plain_bound (drop l.bound-index l.binds))) l.ty)
    ≡ option_or (get_by_text l.initial.types q) (some_if (has_name q (map plain_bound l.binds)) l.ty)
