use Rattle.std.proofs.Common.{◌≡◌, Some, None, ap, sym, ◌∙◌}
use Rattle.std.specs.Str.{bytes_eq}
use Rattle.std.proofs.lemmas.Result.{on_ok_weaker}
use Rattle.type_names.specs.Imports.{variant_number}
use Rattle.type_names.specs.Finding.{FoundTree, numbered}
use Rattle.type_names.specs.FindingViews.{found_in, joined, masked, target_view, with_variant}
use Rattle.type_names.specs.Views.{owner_view}
use Rattle.type_names.proofs.FindingLemmas.{joined_nothing, masked_put, masked_nothing}
use Rattle.type_names.proofs.finding.join_name.Goals as goal

pub returns-in-Some : goal.returns-in-Some
returns-in-Some c = λ items are q.
    let o = owner_view c.args.owner in
    let number : Some c.in-Some.variant ≡ variant_number items o c.args.name.now = sym c.in-Some.is ∙ c.variant.ensures items are in
    on_ok_weaker c.put.result
    (masked_put joined joined_nothing (found_in c.args.targets.now) c.args.name.now q (numbered o (variant_number items o c.args.name.now))
    (found_in c.put.new.targets q) (target_view c.with_variant-found.result)
    (c.with_variant-found.ensures
    ∙ (ap (λ (f : FoundTree). with_variant f o c.in-Some.variant) c.told.ensures
    ∙ ap (λ n. joined (found_in c.args.targets.now c.args.name.now) (numbered o n)) number)))
    (c.put.ensures q)

pub returns-in-None : goal.returns-in-None
returns-in-None c = λ items are q.
    let o = owner_view c.args.owner in
    let number : None ≡ variant_number items o c.args.name.now = sym c.in-None.is ∙ c.variant.ensures items are in
    sym (ap (λ n. joined (found_in c.args.targets.now q) (masked (bytes_eq q c.args.name.now) (numbered o n))) (sym number)
    ∙ masked_nothing (bytes_eq q c.args.name.now) (found_in c.args.targets.now q))
