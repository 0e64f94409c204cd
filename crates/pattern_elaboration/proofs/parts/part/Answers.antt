use Rattle.std.proofs.Common.{arith}
use Rattle.match_model.specs.Declarations.{node_types}
use Rattle.type_table.specs.Tables.{table_program, table_type}
use Rattle.pattern_elaboration.proofs.PartLemmas.{part_there, part_is, part_past}
use Rattle.pattern_elaboration.proofs.parts.part.Goals as goal

pub field-requires-clause-there : goal.field-requires-clause-there
field-requires-clause-there c =
    part_there (node_types (table_program c.args.table.now) (table_type c.args.table.now c.args.ty) c.args.variant)
    c.args.i (omega (arith, c.fields.ensures))

pub returns-then-i-fields-clause-is : goal.returns-then-i-fields-clause-is
returns-then-i-fields-clause-is c =
    let t = table_type c.args.table.now c.args.ty in
    part_is t (table_type c.args.table.now c.field.result) (node_types (table_program c.args.table.now) t
    c.args.variant) c.args.i c.field.ensures.type_is

pub returns-else-i-fields-clause-is : goal.returns-else-i-fields-clause-is
returns-else-i-fields-clause-is c =
    let t = table_type c.args.table.now c.args.ty in
    part_past t (node_types (table_program c.args.table.now) t c.args.variant) c.args.i
    (omega (arith, c.fields.ensures))
