use Rattle.std.proofs.Common.{rules, reverse, ap, ◌∙◌}
use Rattle.std.proofs.lemmas.Fn.{always_returns_same}
use Rattle.std.proofs.lemmas.List.Sorted.{ranks_by}
use Rattle.first_match.proofs.InOrder.{less, seen_total, sort_orders}
use Rattle.first_match.proofs.names.in_order.Goals as goal

pub returns : goal.returns
returns c =
    let order = ranks_by seen_total (λ x. x) in
    sort_orders c.args.way.now c.reverse.new.self.items c.sort_by.new.self.items
    (c.reverse.ensures.items ∙ ap reverse c.in_ok-all.ensures)
    (c.in_ok-sort_by.ensures.sorted less order (always_returns_same _ _ _ (λ a r f k. search rules)))
    (c.in_ok-sort_by.ensures.stable less order (always_returns_same _ _ _ (λ a r f k. search rules)))
