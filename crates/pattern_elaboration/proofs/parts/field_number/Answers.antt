use Rattle.std.proofs.Common.{◌≡◌, length, sym, ◌∙◌}
use Rattle.type_table.specs.Lookups.{field_names}
use Rattle.type_table.specs.Tables.{table_program, table_type, type_variant, fields_of_type}
use Rattle.pattern_elaboration.proofs.NamedFields.{counted}
use Rattle.pattern_elaboration.proofs.PartLemmas.{number_some, number_none}
use Rattle.pattern_elaboration.proofs.parts.field_number.Goals as goal

pub returns-in-Some : goal.returns-in-Some
returns-in-Some c = λ plain.
    let p = table_program c.args.table.now in
    let t = table_type c.args.table.now c.args.ty in
    let ns = field_names (type_variant p t c.args.variant) in
    sym (number_some ns c.args.name.now c.in-Some.i c.in-Some.ensures)

pub returns-in-None : goal.returns-in-None
returns-in-None c = λ plain.
    let p = table_program c.args.table.now in
    let t = table_type c.args.table.now c.args.ty in
    let ns = field_names (type_variant p t c.args.variant) in
    let count : fields_of_type p t c.args.variant ≡ length ns = counted p t c.args.variant plain in
    c.fields.ensures ∙ (count ∙ sym (number_none ns c.args.name.now c.in-None.ensures))
