use Rattle.std.proofs.Common.{ℕ, ℤ, List, take}
use Rattle.match_model.specs.Values.{MValue}
use Rattle.pattern_arena.specs.Trees.{tree}
use Rattle.range_split.specs.Ranges.{plain_range}
use Rattle.pattern_lints.specs.Hulls.{AreKnown}
use Rattle.pattern_lints.specs.Mixing.{with_digits_of, LiesAt}
use Rattle.pattern_lints.proofs.mixing.with_groups.Given as goal

abbrev pub invariant-loop-group : goal.invariant-loop-group
invariant-loop-group g l =
    AreKnown l.hulls (tree l.p) → (n : List ℕ → MValue → ℤ) → LiesAt (tree l.p) l.path n (plain_range l.fn.first) →
    LiesAt (tree l.p) l.path (λ position v. with_digits_of (n position v) (take l.group-index l.groups) position v) (plain_range l.numbers)
