use Rattle.std.proofs.Common.{subst, IsPermutation}
use Rattle.std.proofs.lemmas.List.Sorted.{IsPermutation-map, All-permutation}
use Rattle.constructor_sets.specs.Texts.{IsEntry, entry_text, entry_texts}
use Rattle.constructor_sets.proofs.texts.text_order.Goals as goal

pub returns-clause-same : goal.returns-clause-same
returns-clause-same c =
    subst (λ ts. IsPermutation ts (entry_texts c.sort.new.self.items)) c.in_ok-entries.ensures.same
    (IsPermutation-map entry_text c.in_ok-entries.entries.items c.sort.new.self.items c.in_ok-sort.ensures.permutation)

pub returns-clause-each : goal.returns-clause-each
returns-clause-each c =
    All-permutation (IsEntry c.args.heads.now) c.in_ok-entries.entries.items c.sort.new.self.items c.in_ok-sort.ensures.permutation c.in_ok-entries.ensures.each
