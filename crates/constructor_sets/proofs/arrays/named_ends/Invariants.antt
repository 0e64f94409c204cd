use Rattle.std.proofs.Common.{◌≡◌, ◌||◌, max, drop}
use Rattle.std.specs.List.{list_any}
use Rattle.match_model.specs.Pieces.{is_fixed, longest_front, longest_back}
use Rattle.constructor_sets.specs.Columns.{plain_ctors}
use Rattle.constructor_sets.proofs.arrays.named_ends.Given as goal

abbrev pub invariant-loop-head : goal.invariant-loop-head
invariant-loop-head l =
    ((l.fixed || list_any is_fixed (plain_ctors (drop l.head-index l.column))) ≡ list_any is_fixed (plain_ctors l.column))
    × (max l.longest_front (longest_front (plain_ctors (drop l.head-index l.column))) ≡ longest_front (plain_ctors l.column))
    × (max l.longest_back (longest_back (plain_ctors (drop l.head-index l.column))) ≡ longest_back (plain_ctors l.column))
