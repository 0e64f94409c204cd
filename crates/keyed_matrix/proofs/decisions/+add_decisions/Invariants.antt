use Rattle.std.proofs.Common.{◌≡◌, ◌+◌, ℕ, drop}
use Rattle.pattern_arena.specs.Trees.{placed_subs}
use Rattle.keyed_matrix.specs.Deciding.{in_table, listed_of, or_second}
use Rattle.keyed_matrix.proofs.Numbered.{below_from, counts_from}
use Rattle.keyed_matrix.proofs.decisions.+add_decisions.Given as goal

abbrev pub invariant-loop-k : goal.invariant-loop-k
invariant-loop-k g l =
    (counts_from (drop l.k (placed_subs l.p)) + l.next ≡ counts_from (placed_subs l.p) + l.initial.next)
    × ((u : ℕ) → or_second (in_table l.all u) (listed_of (below_from l.choice l.number l.k l.next (drop l.k (placed_subs l.p))) u)
    ≡ or_second (in_table l.initial.all u) (listed_of (below_from l.choice l.number 0 l.initial.next (placed_subs l.p)) u))
