use Rattle.std.proofs.Common.{ℕ, List, ◌++◌, map, drop, Bor, sym, ap, ◌∙◌}
use Rattle.pattern_check.specs.Walks.{text_at}
use Rattle.std.proofs.lemmas.List.{take-map}
use Rattle.pattern_check.proofs.bound.set_aside.Goals as goal

pub returns-clause-names : goal.returns-clause-names
returns-clause-names c =
    ap (λ (ks : List (Bor (List ℕ))). map text_at ks) c.truncate.ensures.keys ∙ sym (take-map text_at c.args.count c.args.names.now.keys)

pub returns-clause-aside : goal.returns-clause-aside
returns-clause-aside c =
    c.in_ok-copy_from.ensures ∙ ap (λ (ks : List (Bor (List ℕ))). map text_at c.args.aside.now.items ++ drop c.args.count (map text_at ks)) c.as_slice.ensures.keys
