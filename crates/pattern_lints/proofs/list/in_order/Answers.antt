use Rattle.std.proofs.Common.{rules, sym, subst}
use Rattle.std.proofs.lemmas.List.Sorted.{answers_always}
use Rattle.std.proofs.lemmas.List.Filters.{dedup_is}
use Rattle.pattern_lints.specs.Views.{plain_overlaps, IsInOrder}
use Rattle.pattern_lints.proofs.OverlapOrder.{same, overlap_key, sorted-once}
use Rattle.pattern_lints.proofs.list.in_order.Goals as goal

pub returns : goal.returns
returns c =
    let old = c.args.overlaps.items in
    let sorted = c.sort_by_key.new.self.items in
    subst (λ xs. IsInOrder (plain_overlaps old) (plain_overlaps xs)) (sym (dedup_is same sorted c.dedup.new.self.items c.dedup.ensures.filtered))
    (sorted-once old sorted c.in_ok-sort_by_key.ensures.permutation (c.in_ok-sort_by_key.ensures.sorted overlap_key (answers_always _ _ _ (λ f a r g k. search rules))))
