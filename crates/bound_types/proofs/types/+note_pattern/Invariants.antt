use Rattle.std.proofs.Common.{◌≡◌, ℕ, List}
use Rattle.std.specs.Option.{option_or}
use Rattle.indexmap.specs.IndexMap.{get_by_text}
use Rattle.pattern_arena.specs.Trees.{tree, placed_subs}
use Rattle.bound_types.specs.Types.{bound_type}
use Rattle.bound_types.proofs.Preorder.{from_on}
use Rattle.bound_types.proofs.types.+note_pattern.Given as goal

abbrev pub invariant-loop-sub : goal.invariant-loop-sub
invariant-loop-sub g l =
    (q : List ℕ) → option_or (get_by_text l.types q) (from_on (placed_subs l.pat) q l.sub-index)
    ≡ option_or (get_by_text l.initial.types q) (from_on (placed_subs l.pat) q 0)
