use Rattle.std.proofs.Common.{◌≡◌, ℕ, ◌-◌, ◌^◌, ◌<◌, ◌||◌, drop}
use Rattle.std.specs.Prelude.{nat_le}
use Rattle.std.specs.List.{list_any}
use Rattle.slice_split.specs.Shapes.{plain_shapes}
use Rattle.slice_split.specs.Lengths.{is_longer_at}
use Rattle.slice_split.proofs.split.least_longer.Given as goal

abbrev pub invariant-loop-column : goal.invariant-loop-column
invariant-loop-column l =
    (n : ℕ) → n < 2 ^ 64 - 1 →
    list_any (is_longer_at n) (plain_shapes l.columns) ≡ (nat_le l.least n || list_any (is_longer_at n) (plain_shapes (drop l.column-index l.columns)))
