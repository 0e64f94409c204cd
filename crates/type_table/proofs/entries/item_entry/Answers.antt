use Rattle.std.proofs.Common.{◌≡◌, map, length, sym, ap, ◌∙◌, rules}
use Rattle.std.specs.Rc.{rc_str_bytes}
use Rattle.std.specs.Prelude.{nat_lt}
use Rattle.std.specs.List.{list_all}
use Rattle.std.proofs.lemmas.Bool.{and_from}
use Rattle.match_model.specs.Types.{DeclaredItem, NamedType, no_types}
use Rattle.decl_syntax.specs.Patterns.{attr_view}
use Rattle.decl_syntax.specs.Items.{kind_view, variant_view, form_view}
use Rattle.decl_syntax.specs.declared.items.ItemKind.{ItemKind}
use Rattle.type_names.specs.Written.{variant_of, is_marked_by, form_of}
use Rattle.type_names.specs.Views.{means_in}
use Rattle.type_table.specs.Nodes.{types_in, type_there}
use Rattle.type_table.specs.Entries.{variant_below, variant_entry, variant_named}
use Rattle.type_table.proofs.EntryLemmas.{id_test, all_weaker, map_same, variant_same, variant_still, kind_told, enum_equal, struct_equal}
use Rattle.type_table.proofs.entries.item_entry.Goals as goal

pub returns-in_ok-id-in-Enum-clause-below : goal.returns-in_ok-id-in-Enum-clause-below
returns-in_ok-id-in-Enum-clause-below c =
    let old = c.variant_entries.new.nodes.keys in
    let new = c.leaf.new.nodes.keys in
    and_from (nat_lt c.in_ok-id-in-Enum.id (length new)) (list_all (variant_below (length new)) c.in_ok-variants-in-Enum.variants.items)
    (id_test new c.in_ok-id-in-Enum.id _ c.in_ok-id-in-Enum.ensures.type_is)
    (all_weaker (variant_below (length old)) (variant_below (length new)) (variant_still old new c.in_ok-id-in-Enum.ensures.extends) c.in_ok-variants-in-Enum.variants.items c.in_ok-variants-in-Enum.ensures.below)

pub returns-in_ok-id-in-Enum-clause-told : goal.returns-in_ok-id-in-Enum-clause-told
returns-in_ok-id-in-Enum-clause-told c =
    let old = c.variant_entries.new.nodes.keys in
    let new = c.leaf.new.nodes.keys in
    let names = means_in c.args.names.now in
    let marked : c.is_marked-later.result ≡ is_marked_by (map attr_view c.args.item.now.attrs.items) = search rules in
    let variants : map (variant_entry (types_in old)) c.in_ok-variants-in-Enum.variants.items ≡ map (variant_of names) (map variant_view c.in-Enum.e.variants.items) = search rules in
    enum_equal (rc_str_bytes c.in_ok-name-in-Enum.name) (rc_str_bytes c.in-Enum.e.name) c.is_marked-later.result (is_marked_by (map attr_view c.args.item.now.attrs.items))
    (map (variant_entry (types_in new)) c.in_ok-variants-in-Enum.variants.items) (map (variant_of names) (map variant_view c.in-Enum.e.variants.items)) _ (NamedType (DeclaredItem c.args.i) no_types)
    (search rules) marked
    (map_same (variant_below (length old)) (variant_entry (types_in new)) (variant_entry (types_in old)) (variant_same old new c.in_ok-id-in-Enum.ensures.extends) c.in_ok-variants-in-Enum.variants.items c.in_ok-variants-in-Enum.ensures.below ∙ variants)
    (ap type_there c.in_ok-id-in-Enum.ensures.type_is)
    ∙ ap (λ (k : ItemKind). kind_told names c.args.i (is_marked_by (map attr_view c.args.item.now.attrs.items)) (kind_view k)) (sym c.in-Enum.is)

pub returns-in_ok-id-in-Struct-clause-below : goal.returns-in_ok-id-in-Struct-clause-below
returns-in_ok-id-in-Struct-clause-below c =
    let old = c.variant_entry.new.nodes.keys in
    let new = c.leaf-in-Struct.new.nodes.keys in
    and_from (nat_lt c.in_ok-id-in-Struct.id (length new)) (variant_below (length new) c.in_ok-variant-in-Struct.variant)
    (id_test new c.in_ok-id-in-Struct.id _ c.in_ok-id-in-Struct.ensures.type_is)
    (variant_still old new c.in_ok-id-in-Struct.ensures.extends c.in_ok-variant-in-Struct.variant c.in_ok-variant-in-Struct.ensures.below)

pub returns-in_ok-id-in-Struct-clause-told : goal.returns-in_ok-id-in-Struct-clause-told
returns-in_ok-id-in-Struct-clause-told c =
    let old = c.variant_entry.new.nodes.keys in
    let new = c.leaf-in-Struct.new.nodes.keys in
    let names = means_in c.args.names.now in
    struct_equal (variant_entry (types_in new) c.in_ok-variant-in-Struct.variant) (variant_named (rc_str_bytes c.in-Struct.s.name) (form_of names (form_view c.in-Struct.s.form))) _ (NamedType (DeclaredItem c.args.i) no_types)
    (variant_same old new c.in_ok-id-in-Struct.ensures.extends c.in_ok-variant-in-Struct.variant c.in_ok-variant-in-Struct.ensures.below ∙ c.in_ok-variant-in-Struct.ensures.variant)
    (ap type_there c.in_ok-id-in-Struct.ensures.type_is)
    ∙ ap (λ (k : ItemKind). kind_told names c.args.i (is_marked_by (map attr_view c.args.item.now.attrs.items)) (kind_view k)) (sym c.in-Struct.is)

pub returns-in_ok-param-in-Function-clause-below : goal.returns-in_ok-param-in-Function-clause-below
returns-in_ok-param-in-Function-clause-below c = id_test c.type_id.new.nodes.keys c.in_ok-param-in-Function.param _ c.in_ok-param-in-Function.ensures.type_is
