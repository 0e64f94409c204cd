use Rattle.std.proofs.Common.{map, [], sym, subst}
use Rattle.pattern_arena.specs.Trees.{plain_match}
use Rattle.pattern_lints.specs.Ends.{AreBounded}
use Rattle.pattern_lints.specs.Finding.{range_view}
use Rattle.pattern_lints.proofs.pairs.all_pairs.Goals as goal

pub sorted_ends-requires-clause-known : goal.sorted_ends-requires-clause-known
sorted_ends-requires-clause-known g c = λ place own e. cc

pub sorted_ends-requires-2-clause-known : goal.sorted_ends-requires-2-clause-known
sorted_ends-requires-2-clause-known g c = λ place own e. cc

pub pairs_across-requires-clause-apart : goal.pairs_across-requires-clause-apart
pairs_across-requires-clause-apart g c =
    let arms = (plain_match c.args.m.now).arms in
    let fs = map range_view c.args.found.now in (
      [],
      subst (λ es. AreBounded arms [] fs es) (sym c.deref-then-is_empty.ensures.value) c.in_ok-highs.ensures.bounded,
      subst (λ es. AreBounded arms [] fs es) (sym c.deref-then-is_empty-2.ensures.value) c.in_ok-lows.ensures.bounded,
    )
