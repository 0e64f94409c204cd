use Rattle.std.proofs.Common.{◌≡◌, ℕ, List, map, take, sym, ap, ◌∙◌, arith, rules, ◌++◌, ◌∷◌, []}
use Rattle.std.specs.Rc.{rc_str_bytes}
use Rattle.std.proofs.lemmas.List.{map-append}
use Rattle.decl_syntax.specs.Items.{variant_view, VariantTree}
use Rattle.type_names.specs.Imports.{variant_number}
use Rattle.type_names.specs.NameRules.{is_among}
use Rattle.type_names.specs.Finding.{numbered}
use Rattle.type_names.specs.FindingViews.{found_in, joined, masked}
use Rattle.type_names.specs.Views.{owner_view}
use Rattle.type_names.proofs.Places.{front_more}
use Rattle.type_names.proofs.TakenLemmas.{whole_map}
use Rattle.type_names.proofs.FindingLemmas.{joined_nothing, joined_again, masked_step}
use Rattle.type_names.proofs.finding.join_variants.Goals as goal

names_of : List VariantTree → List (List ℕ)
names_of vs = map (λ v. v.name) vs

pub loop-variant-preserved : goal.loop-variant-preserved
unfolding names_of
loop-variant-preserved c = λ items are q.
    let o = owner_view c.args.owner in
    let found = λ (m : List ℕ). numbered o (variant_number items o m) in
    let front = names_of (map variant_view (take c.loop-variant.variant-index c.args.variants.now)) in
    let n = c.deref.result.now in
    let same : rc_str_bytes c.variant-item.result.name ≡ n = search rules in
    let old = found_in c.args.targets.now q in
    let more = ap names_of (front_more variant_view c.args.variants.now c.loop-variant.variant-index c.variant-item.result c.loop-variant-test.true c.variant-item.is)
    ∙ map-append (λ v. v.name) (map variant_view (take c.loop-variant.variant-index c.args.variants.now)) (variant_view c.variant-item.result ∷ [])
    ∙ ap (λ (m : List ℕ). front ++ m ∷ []) same in
    masked_step joined joined_nothing joined_again found front n q old (found_in c.loop-variant.targets q) (found_in c.join_name.new.targets q)
    (c.loop-variant.invariant items are q) (c.in_ok-join_name.ensures items are q)
    ∙ ap (λ (ns : List (List ℕ)). joined old (masked (is_among q ns) (found q))) (sym more)

pub returns : goal.returns
returns c = λ items are q.
    let o = owner_view c.args.owner in
    c.loop-variant.invariant items are q
    ∙ ap (λ (vs : List VariantTree). joined (found_in c.args.targets.now q) (masked (is_among q (map (λ v. v.name) vs)) (numbered o (variant_number items o q))))
    (whole_map variant_view c.args.variants.now c.loop-variant.variant-index (omega arith))
