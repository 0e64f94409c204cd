use Rattle.std.proofs.Common.{◌∙◌}
use Rattle.type_table.specs.Tables.{table_program, table_type}
use Rattle.pattern_elaboration.proofs.ItemTypes.{item_there, part_there}
use Rattle.pattern_elaboration.proofs.parts.item_type.Goals as goal

pub returns-in-Some-clause-is : goal.returns-in-Some-clause-is
returns-in-Some-clause-is c =
    item_there (table_program c.args.table.now) (table_type c.args.table.now c.args.ty)
    (table_type c.args.table.now c.in-Some.item) c.in-Some.field-0-1 c.args.i c.in-Some.ensures.is

pub returns-in-None-clause-is : goal.returns-in-None-clause-is
returns-in-None-clause-is c = c.part.ensures.is ∙ part_there (table_program c.args.table.now)
    (table_type c.args.table.now c.args.ty) c.args.i c.in-None.ensures.is
