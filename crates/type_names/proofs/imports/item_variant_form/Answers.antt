use Rattle.std.proofs.Common.{◌≡◌, Some, map, ap, ◌∙◌}
use Rattle.std.specs.Prelude.{slice_get, option_map}
use Rattle.decl_syntax.specs.Items.{item_view, variant_view, ItemTree, VariantTree}
use Rattle.type_names.proofs.Variants.{get_map, form_there, looked_up}
use Rattle.type_names.proofs.imports.item_variant_form.Goals as goal

pub returns : goal.returns
returns c =
    let item : slice_get c.args.items.now c.args.i ≡ Some c.in_ok-item.item.now = looked_up c.args.items.now c.args.i c.in_ok-item.item.now c.in_ok-item.ensures.lookup.0 c.in_ok-item.ensures.lookup.1 in
    let variant : slice_get c.variants_of.result.now c.args.k ≡ Some c.in_ok-variant.variant.now = looked_up c.variants_of.result.now c.args.k c.in_ok-variant.variant.now c.in_ok-variant.ensures.lookup.0 c.in_ok-variant.ensures.lookup.1 in
    ap Some c.form_kind.ensures
    ∙ form_there (map item_view c.args.items.now) c.args.i c.args.k (item_view c.in_ok-item.item.now) (map variant_view c.variants_of.result.now) (variant_view c.in_ok-variant.variant.now)
    (get_map item_view c.args.items.now c.args.i ∙ ap (option_map {U = ItemTree} item_view) item)
    c.variants_of.ensures
    (get_map variant_view c.variants_of.result.now c.args.k ∙ ap (option_map {U = VariantTree} variant_view) variant)
