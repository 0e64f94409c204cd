use Rattle.std.proofs.Common.{◌≡◌, ℕ, List, true, map, rules, ap, ◌∙◌, refl, [], ◌∷◌}
use Rattle.std.specs.Rc.{rc_str_bytes}
use Rattle.std.specs.Str.{bytes_eq}
use Rattle.std.specs.List.{list_any}
use Rattle.decl_syntax.specs.Items.{VariantTree, variant_view}
use Rattle.decl_syntax.specs.declared.items.Variant.{Variant}
use Rattle.type_names.proofs.ItemTests.{any_found}
use Rattle.type_names.proofs.name_rules.is_named_before.Goals as goal

names_of : (xs : List Variant) → map (λ (v : Variant). (variant_view v).name) xs ≡ map (λ (x : VariantTree). x.name) (map variant_view xs)
names_of [] = refl
names_of (x ∷ xs) = ap (λ (zs : List (List ℕ)). (variant_view x).name ∷ zs) (names_of xs)

pub returns-then-eq : goal.returns-then-eq
returns-then-eq c =
    let here : bytes_eq (rc_str_bytes c.args.variant.now.name) (rc_str_bytes c.other-item.result.name) ≡ true = search rules in
    any_found (λ (v : Variant). (variant_view v).name) (bytes_eq (rc_str_bytes c.args.variant.now.name)) c.args.before.now c.loop-other.other-index c.other-item.result c.loop-other-test.true c.other-item.is here
    ∙ ap (list_any (bytes_eq (rc_str_bytes c.args.variant.now.name))) (names_of c.args.before.now)
