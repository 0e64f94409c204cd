use Rattle.std.proofs.Common.{ℕ, Option, map, sym, ap, ◌∙◌, subst}
use Rattle.decl_syntax.specs.Items.{item_view}
use Rattle.type_names.specs.declared.item_rules.ItemRule.TheVariants as item_rules
use Rattle.type_names.specs.declared.type_rules.TypeRule.TheVariants as type_rules
use Rattle.type_table.specs.Faults.{Breaks, LeastFault}
use Rattle.type_table.specs.Readings.{earlier}
use Rattle.type_table.proofs.AllRules.{first_breaking, first_named, all_rules, least_of_all}
use Rattle.type_table.proofs.faults.least_fault.Goals as goal

pub returns : goal.returns
returns c =
    let items = map item_view c.args.items.now in
    let e10 = c.earlier-upto_name_twice.ensures in
    let e11 = c.earlier-upto_variant_twice.ensures ∙ ap (λ (b : Option (ℕ × ℕ)). earlier b 11 c.in_ok-by_variant_twice.by_variant_twice) e10 in
    let e12 = c.earlier-upto_field_twice.ensures ∙ ap (λ (b : Option (ℕ × ℕ)). earlier b 12 c.in_ok-by_field_twice.by_field_twice) e11 in
    let e13 = c.earlier-upto_unknown_type.ensures ∙ ap (λ (b : Option (ℕ × ℕ)). earlier b 13 c.in_ok-by_unknown_type.by_unknown_type) e12 in
    let e14 = c.earlier-upto_sizeless_place.ensures ∙ ap (λ (b : Option (ℕ × ℕ)). earlier b 14 c.in_ok-by_sizeless_place.by_sizeless_place) e13 in
    let e15 = c.earlier-upto_contains_itself.ensures ∙ ap (λ (b : Option (ℕ × ℕ)). earlier b 15 c.args.cyclic) e14 in
    let e16 = c.earlier-upto_array_length.ensures ∙ ap (λ (b : Option (ℕ × ℕ)). earlier b 16 c.in_ok-by_array_length.by_array_length) e15 in
    let e17 = c.earlier-upto_argument_count.ensures ∙ ap (λ (b : Option (ℕ × ℕ)). earlier b 17 c.in_ok-by_argument_count.by_argument_count) e16 in
    let e18 = c.earlier-upto_bad_use.ensures ∙ ap (λ (b : Option (ℕ × ℕ)). earlier b 18 c.in_ok-by_bad_use.by_bad_use) e17 in
    let e19 = c.earlier-upto_unsupported_attribute.ensures ∙ ap (λ (b : Option (ℕ × ℕ)). earlier b 19 c.in_ok-by_unsupported.by_unsupported) e18 in
    let e36 = c.earlier-upto_endless_type.ensures ∙ ap (λ (b : Option (ℕ × ℕ)). earlier b 36 c.args.endless) e19 in
    let P : Option (ℕ × ℕ) → Type 0 = λ b. LeastFault (Breaks items c.args._width) b in
    subst P (sym e36) (least_of_all items c.args._width _ (all_rules items c.args._width c.in_ok-by_name_twice.by_name_twice c.in_ok-by_variant_twice.by_variant_twice c.in_ok-by_field_twice.by_field_twice c.in_ok-by_unknown_type.by_unknown_type c.in_ok-by_sizeless_place.by_sizeless_place c.args.cyclic c.in_ok-by_array_length.by_array_length c.in_ok-by_argument_count.by_argument_count c.in_ok-by_bad_use.by_bad_use c.in_ok-by_unsupported.by_unsupported c.args.endless
    (first_named items c.in_ok-by_name_twice.by_name_twice c.in_ok-by_name_twice.ensures)
    (first_breaking item_rules.VariantTwice items c.in_ok-by_variant_twice.by_variant_twice c.in_ok-by_variant_twice.ensures)
    (first_breaking item_rules.FieldTwice items c.in_ok-by_field_twice.by_field_twice c.in_ok-by_field_twice.ensures)
    (first_breaking (item_rules.Written type_rules.UnknownType) items c.in_ok-by_unknown_type.by_unknown_type c.in_ok-by_unknown_type.ensures)
    (first_breaking (item_rules.Written type_rules.SizelessPlace) items c.in_ok-by_sizeless_place.by_sizeless_place c.in_ok-by_sizeless_place.ensures)
    c.requires.cyclic
    (first_breaking (item_rules.Written type_rules.ArrayLength) items c.in_ok-by_array_length.by_array_length c.in_ok-by_array_length.ensures)
    (first_breaking (item_rules.Written type_rules.ArgumentCount) items c.in_ok-by_argument_count.by_argument_count c.in_ok-by_argument_count.ensures)
    (first_breaking item_rules.BadUse items c.in_ok-by_bad_use.by_bad_use c.in_ok-by_bad_use.ensures)
    (first_breaking item_rules.UnsupportedAttribute items c.in_ok-by_unsupported.by_unsupported c.in_ok-by_unsupported.ensures)
    c.requires.endless))
