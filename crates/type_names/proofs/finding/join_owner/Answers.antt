use Rattle.std.proofs.Common.{[], ◌∷◌, map, sym, ap, ◌∙◌}
use Rattle.std.specs.Prelude.{codes}
use Rattle.std.proofs.lemmas.Result.{on_ok_weaker}
use Rattle.match_model.specs.Types.{DeclaredItem}
use Rattle.decl_syntax.specs.Items.{item_view, variant_view}
use Rattle.type_names.specs.Imports.{variant_number, owner_variants}
use Rattle.type_names.specs.Finding.{numbered}
use Rattle.type_names.specs.FindingViews.{found_in, joined}
use Rattle.type_names.specs.Views.{owner_view}
use Rattle.type_names.specs.declared.meanings.Owner.{Owner}
use Rattle.type_names.proofs.FindingLemmas.{unmasked, item_names}
use Rattle.type_names.proofs.finding.join_owner.Goals as goal

pub returns-in-Item : goal.returns-in-Item
returns-in-Item c = λ q.
    let all = map item_view c.args.items.now in
    let old = found_in c.args.targets.now q in
    on_ok_weaker c.join_variants.result
    (λ h. h ∙ (ap (joined old) (unmasked all (DeclaredItem c.in-Item.i) q (map (λ v. v.name) (map variant_view c.item_variants.result.now)) (item_names all c.in-Item.i (map variant_view c.item_variants.result.now) c.item_variants.ensures))
    ∙ ap (λ (o : Owner). joined old (numbered (owner_view o) (variant_number all (owner_view o) q))) (sym c.in-Item.is)))
    (c.join_variants.ensures all c.requires q)

pub returns-in-Option : goal.returns-in-Option
returns-in-Option c = λ q.
    let all = map item_view c.args.items.now in
    on_ok_weaker c.join_two.result
    (λ h. h ∙ ap (joined (found_in c.args.targets.now q))
    (unmasked all (owner_view c.args.owner) q (codes "None" ∷ codes "Some" ∷ []) (ap (λ (o : Owner). map (λ v. v.0) (owner_variants all (owner_view o))) (sym c.in-Option.is))))
    (c.join_two.ensures all c.requires q)

pub returns-in-Result : goal.returns-in-Result
returns-in-Result c = λ q.
    let all = map item_view c.args.items.now in
    on_ok_weaker c.join_two-in-Result.result
    (λ h. h ∙ ap (joined (found_in c.args.targets.now q))
    (unmasked all (owner_view c.args.owner) q (codes "Ok" ∷ codes "Err" ∷ []) (ap (λ (o : Owner). map (λ v. v.0) (owner_variants all (owner_view o))) (sym c.in-Result.is))))
    (c.join_two-in-Result.ensures all c.requires q)
