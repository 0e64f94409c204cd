use Rattle.std.proofs.Common.{◌≡◌, ℕ, ◌||◌, drop, length, get_or, false}
use Rattle.constructor_sets.specs.Numbered.{is_listed}
use Rattle.constructor_sets.proofs.variants.marks_of.Given as goal

abbrev pub invariant-loop-k : goal.invariant-loop-k
invariant-loop-k l =
    (length l.marks.items ≡ l.end) × ((n : ℕ) → (get_or l.marks.items n false || is_listed (drop l.k-index l.numbers) n) ≡ is_listed l.numbers n)
