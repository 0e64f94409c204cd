use Rattle.std.proofs.Common.{rules}
use Rattle.std.proofs.lemmas.List.Sorted.{answers_always}
use Rattle.explain_text.proofs.Sorted.{key, sort_orders}
use Rattle.explain_text.proofs.order.in_file_order.Goals as goal

pub returns : goal.returns
returns c =
    sort_orders c.args.found.items c.sort_by_key.new.self.items
    (c.in_ok-sort_by_key.ensures.sorted key (answers_always _ _ _ (λ f a r g k. search rules)))
    (c.in_ok-sort_by_key.ensures.stable key (answers_always _ _ _ (λ f a r g k. search rules)))
