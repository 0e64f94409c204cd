use Rattle.std.proofs.Common.{◌∙◌}
use Rattle.type_table.specs.Tables.{table_program, table_type}
use Rattle.pattern_elaboration.proofs.ItemTypes.{row_count, part_count}
use Rattle.pattern_elaboration.proofs.parts.item_count.Goals as goal

pub returns-in-Some-clause-is : goal.returns-in-Some-clause-is
returns-in-Some-clause-is c =
    row_count (table_program c.args.table.now) (table_type c.args.table.now c.args.ty)
    (table_type c.args.table.now c.in-Some.field-0.0) c.in-Some.field-0.1 c.args.items c.in-Some.ensures.is

pub returns-in-None-clause-is : goal.returns-in-None-clause-is
returns-in-None-clause-is c = c.fields.ensures ∙ part_count (table_program c.args.table.now)
    (table_type c.args.table.now c.args.ty) c.args.items c.in-None.ensures.is
