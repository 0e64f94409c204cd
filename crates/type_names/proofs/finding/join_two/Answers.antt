use Rattle.std.proofs.Common.{ℕ, List, [], ◌∷◌, refl}
use Rattle.std.proofs.lemmas.Result.{on_ok_weaker}
use Rattle.type_names.specs.Imports.{variant_number}
use Rattle.type_names.specs.Finding.{numbered}
use Rattle.type_names.specs.FindingViews.{found_in, joined}
use Rattle.type_names.specs.Views.{owner_view}
use Rattle.type_names.proofs.FindingLemmas.{joined_nothing, joined_again, masked_step}
use Rattle.type_names.proofs.finding.join_two.Goals as goal

pub returns : goal.returns
returns c = λ items are q.
    let o = owner_view c.args.owner in
    let found = λ (m : List ℕ). numbered o (variant_number items o m) in
    let old = found_in c.args.targets.now q in
    let one = masked_step joined joined_nothing joined_again found [] c.args.first.now q old old (found_in c.join_name.new.targets q) refl (c.in_ok-join_name.ensures items are q) in
    on_ok_weaker c.join_name-2.result
    (masked_step joined joined_nothing joined_again found (c.args.first.now ∷ []) c.args.second.now q old (found_in c.join_name.new.targets q) (found_in c.join_name-2.new.targets q)
    one)
    (c.join_name-2.ensures items are q)
