use Rattle.std.proofs.Common.{map, sym, subst}
use Rattle.pattern_arena.specs.Trees.{plain_match}
use Rattle.pattern_lints.specs.Ends.{AreBounded}
use Rattle.pattern_lints.specs.Finding.{range_view}
use Rattle.pattern_lints.proofs.pairs.pairs_apart.Goals as goal

pub sorted_ends-requires-clause-known : goal.sorted_ends-requires-clause-known
sorted_ends-requires-clause-known g c = λ place own e. c.in_ok-hulls.ensures

pub sorted_ends-requires-2-clause-known : goal.sorted_ends-requires-2-clause-known
sorted_ends-requires-2-clause-known g c = λ place own e. c.in_ok-hulls.ensures

pub pairs_across-requires-clause-apart : goal.pairs_across-requires-clause-apart
pairs_across-requires-clause-apart g c =
    let arms = (plain_match c.args.m.now).arms in
    let fs = map range_view c.args.found.now in
    let columns = c.in_ok-columns.columns.items in
    let highs = c.in_ok-highs.highs.items in
    let lows = c.in_ok-lows.lows.items in (
      columns,
      subst (λ es. AreBounded arms columns fs es) (sym c.deref-3.ensures.value)
          (subst (λ cs. AreBounded arms cs fs highs) c.deref.ensures.value c.in_ok-highs.ensures.bounded),
      subst (λ es. AreBounded arms columns fs es) (sym c.deref-4.ensures.value)
          (subst (λ cs. AreBounded arms cs fs lows) c.deref-2.ensures.value c.in_ok-lows.ensures.bounded),
    )
