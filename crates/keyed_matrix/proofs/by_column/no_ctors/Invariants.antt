use Rattle.std.proofs.Common.{◌≡◌, ℕ, [], length}
use Rattle.keyed_matrix.specs.InColumns.{ctors_in}
use Rattle.keyed_matrix.proofs.by_column.no_ctors.Given as goal

abbrev pub invariant-loop-is_wanted : goal.invariant-loop-is_wanted
invariant-loop-is_wanted l =
    record {
      long : length l.lists.items ≡ l.is_wanted-index;
      none : (i : ℕ) → ctors_in l.lists.items i ≡ [];
    }
