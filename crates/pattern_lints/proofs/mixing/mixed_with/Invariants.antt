use Rattle.std.proofs.Common.{ℕ, ℤ, List, take}
use Rattle.match_model.specs.Values.{MValue}
use Rattle.pattern_arena.specs.Trees.{tree}
use Rattle.range_split.specs.Ranges.{plain_range}
use Rattle.pattern_lints.specs.Hulls.{AreKnown}
use Rattle.pattern_lints.specs.Mixing.{mixed_with, LiesAt}
use Rattle.pattern_lints.proofs.mixing.mixed_with.Given as goal

abbrev pub invariant-loop-column : goal.invariant-loop-column
invariant-loop-column g l =
    AreKnown l.hulls (tree l.p) → (n : List ℕ → MValue → ℤ) → LiesAt (tree l.p) l.path n (plain_range l.fn.first) →
    LiesAt (tree l.p) l.path (λ position v. mixed_with (n position v) (take l.column-index l.others) position v) (plain_range l.numbers)
