use Rattle.std.proofs.Common.{◌≡◌, ℕ, ◌≤◌, List, length, slice_get, string_bytes, Option, Some, ap, sym, ◌∙◌, arith}
use Rattle.std.proofs.lemmas.List.{take_all}
use Rattle.type_table.specs.Lookups.{field_names, name_or_number}
use Rattle.type_table.specs.Tables.{table_program, table_type, type_variant}
use Rattle.pattern_check.proofs.NamedFields.{counted, name_there, names_more}
use Rattle.pattern_check.proofs.fields.variant_names.Goals as goal

pub loop-i-preserved : goal.loop-i-preserved
loop-i-preserved c =
    let p = table_program c.args.table.now in
    let t = table_type c.args.table.now c.args.ty in
    let ns = field_names (type_variant p t c.args.variant) in
    let at : slice_get ns c.loop-i.i ≡ Some (string_bytes c.in_ok-name_or_number.field-0)
    = name_there p t c.args.variant c.loop-i.i c.requires.named (omega (arith, c.fields-i-end.ensures))
    ∙ ap Some (ap (λ (o : Option (List ℕ)). name_or_number o c.loop-i.i) (sym c.field_name.ensures) ∙ sym c.in_ok-name_or_number.ensures) in
    rw c.in_ok-push.ensures.items
    (names_more string_bytes ns c.loop-i.names.items c.in_ok-name_or_number.field-0 c.loop-i.i c.loop-i.invariant at)

pub returns : goal.returns
returns c =
    let p = table_program c.args.table.now in
    let t = table_type c.args.table.now c.args.ty in
    let ns = field_names (type_variant p t c.args.variant) in
    let enough : length ns ≤ c.loop-i.i = omega (arith, c.fields-i-end.ensures, counted p t c.args.variant c.requires.named) in
    c.loop-i.invariant ∙ take_all c.loop-i.i ns enough
