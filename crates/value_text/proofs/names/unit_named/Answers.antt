use Rattle.std.proofs.Common.{ap, ◌∙◌}
use Rattle.type_table.specs.Tables.{table_program, table_type}
use Rattle.value_syntax.specs.Trees.{path_view}
use Rattle.value_text.specs.Names.{path_number}
use Rattle.value_text.specs.Lookups.{if_unit}
use Rattle.value_text.proofs.FormKinds.{unit_told}
use Rattle.value_text.proofs.names.unit_named.Goals as goal

pub returns : goal.returns
returns c =
    let program = table_program c.args.table.now in
    let t = table_type c.args.table.now c.args.ty in
    c.if_unit.ensures ∙ (ap if_unit c.kind_named.ensures ∙ unit_told program t (path_number program t (path_view c.args.path.now)))
