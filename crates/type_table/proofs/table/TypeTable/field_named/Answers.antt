use Rattle.std.proofs.Common.{◌≡◌, ◌<◌, true, Option, Some, length, sym, ap, subst, ◌∙◌, arith, rules}
use Rattle.std.specs.Str.{bytes_eq}
use Rattle.match_model.specs.Declarations.{MVariant, variants_of}
use Rattle.type_table.specs.Lookups.{form_names, field_named, name_or_number}
use Rattle.type_table.specs.Tables.{table_program, table_type, type_variant, variant_name_of, field_name_of}
use Rattle.type_table.proofs.LookupLemmas.{named_variant, fields_counted, first_field, no_field, NoFieldNamed}
use Rattle.type_table.proofs.table.TypeTable.field_named.Goals as goal

pub returns-then-is_field_named : goal.returns-then-is_field_named
returns-then-is_field_named c =
    let table = c.args.self.now in
    let named : Some c.in_ok-name_there.field-0.now ≡ variant_name_of (type_variant (table_program table) (table_type table c.args.ty) c.args.variant) = search rules in
    let v = named_variant (variants_of (table_program table) (table_type table c.args.ty)) c.args.variant c.in_ok-name_there.field-0.now named in
    let count : c.fields-i-end.result ≡ length (form_names v.0.form) = c.fields-i-end.ensures ∙ fields_counted (table_program table) (table_type table c.args.ty) c.args.variant v.0 v.1 in
    let lt : c.loop-i.i < length (form_names v.0.form) = omega (arith, count) in
    sym (ap (λ (o : Option MVariant). field_named o c.args.name.now) v.1
    ∙ first_field c.args.name.now v.0 c.loop-i.i lt
    (subst (λ (o : Option MVariant). NoFieldNamed o c.args.name.now c.loop-i.i) v.1 c.loop-i.invariant)
    (subst (λ (o : Option MVariant). bytes_eq c.args.name.now (name_or_number (field_name_of o c.loop-i.i) c.loop-i.i) ≡ true) v.1 (sym c.is_field_named.ensures ∙ c.if-is_field_named.true)))

pub returns : goal.returns
returns c =
    let table = c.args.self.now in
    let named : Some c.in_ok-name_there.field-0.now ≡ variant_name_of (type_variant (table_program table) (table_type table c.args.ty) c.args.variant) = search rules in
    let v = named_variant (variants_of (table_program table) (table_type table c.args.ty)) c.args.variant c.in_ok-name_there.field-0.now named in
    let count : c.fields-i-end.result ≡ length (form_names v.0.form) = c.fields-i-end.ensures ∙ fields_counted (table_program table) (table_type table c.args.ty) c.args.variant v.0 v.1 in
    sym (ap (λ (o : Option MVariant). field_named o c.args.name.now) v.1
    ∙ no_field c.args.name.now v.0 c.loop-i.i (omega (arith, count))
    (subst (λ (o : Option MVariant). NoFieldNamed o c.args.name.now c.loop-i.i) v.1 c.loop-i.invariant))
