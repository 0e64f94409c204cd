use Rattle.std.proofs.Common.{◌≡◌, ℕ, length, ap, sym, ◌∙◌, arith}
use Rattle.match_model.specs.Declarations.{node_types}
use Rattle.match_model.specs.RustTypes.{count_of_types}
use Rattle.type_table.specs.Lookups.{field_names}
use Rattle.type_table.specs.Tables.{table_program, table_type, type_variant}
use Rattle.pattern_check.specs.Walks.{types_of_parts}
use Rattle.pattern_check.proofs.NamedFields.{counted}
use Rattle.pattern_check.proofs.PartLemmas.{part_past, number_some, number_none}
use Rattle.pattern_check.proofs.walk.field_type.Goals as goal

pub returns-in-Some-clause-is : goal.returns-in-Some-clause-is
returns-in-Some-clause-is c = λ plain.
    let p = table_program c.args.table.now in
    let t = table_type c.args.table.now c.args.ty in
    let ns = field_names (type_variant p t c.args.variant) in
    c.part.ensures.is ∙ ap (λ (i : ℕ). types_of_parts p t c.args.variant i) (sym (number_some ns c.args.name.now c.in-Some.i c.in-Some.ensures))

pub returns-in-None-clause-is : goal.returns-in-None-clause-is
returns-in-None-clause-is c = λ plain.
    let p = table_program c.args.table.now in
    let t = table_type c.args.table.now c.args.ty in
    let ns = field_names (type_variant p t c.args.variant) in
    let count : count_of_types (node_types p t c.args.variant) ≡ length ns = counted p t c.args.variant plain in
    part_past t (node_types p t c.args.variant) (length ns) (omega arith)
    ∙ ap (λ (i : ℕ). types_of_parts p t c.args.variant i) (sym (number_none ns c.args.name.now c.in-None.ensures))
