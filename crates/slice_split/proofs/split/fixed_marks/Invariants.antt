use Rattle.std.proofs.Common.{◌≡◌, ℕ, ◌≤◌, ◌||◌, drop, length, map, get_or, false}
use Rattle.std.specs.List.{list_any}
use Rattle.match_model.specs.Constructors.{RowCtor}
use Rattle.match_model.specs.Pieces.{fixed_end}
use Rattle.slice_split.specs.Shapes.{plain_shapes}
use Rattle.slice_split.specs.Lengths.{is_fixed_at}
use Rattle.slice_split.proofs.split.fixed_marks.Given as goal

abbrev pub invariant-loop-column : goal.invariant-loop-column
invariant-loop-column l =
    (length l.marks.items ≡ l.end) × (fixed_end (map RowCtor (plain_shapes (drop l.column-index l.columns))) ≤ l.end)
    × ((n : ℕ) → (get_or l.marks.items n false || list_any (is_fixed_at n) (plain_shapes (drop l.column-index l.columns))) ≡ list_any (is_fixed_at n) (plain_shapes l.columns))
