use Rattle.std.proofs.Common.{rules, map, length}
use Rattle.std.proofs.lemmas.List.Sorted.{answers_always}
use Rattle.pattern_arena.specs.Trees.{plain_arm}
use Rattle.pattern_lints.specs.Finding.{range_view}
use Rattle.pattern_lints.proofs.EndList.{ends-moved, bounded-moved}
use Rattle.pattern_lints.proofs.EndOrder.{end_key, rise-sorted}
use Rattle.pattern_lints.proofs.ends.sorted_ends.Goals as goal

pub returns-clause-ends : goal.returns-clause-ends
returns-clause-ends g c =
    let fs = map range_view c.args.found.now in
    ends-moved c.args.side fs (length fs) c.in_ok-ends.ends.items c.sort_by_key.new.self.items c.in_ok-sort_by_key.ensures.permutation c.in_ok-ends.ensures.ends

pub returns-clause-bounded : goal.returns-clause-bounded
returns-clause-bounded g c =
    bounded-moved (map plain_arm c.args.arms.now) c.args.columns.now (map range_view c.args.found.now) c.in_ok-ends.ends.items c.sort_by_key.new.self.items
    c.in_ok-sort_by_key.ensures.permutation c.in_ok-ends.ensures.bounded

pub returns-clause-rise : goal.returns-clause-rise
returns-clause-rise g c = rise-sorted c.sort_by_key.new.self.items (c.in_ok-sort_by_key.ensures.sorted end_key (answers_always _ _ _ (λ f a r g k. search rules)))
