use Rattle.std.proofs.Common.{◌∙◌}
use Rattle.type_table.specs.Tables.{table_type}
use Rattle.pattern_check.proofs.KindTests.{tuple_told}
use Rattle.pattern_check.proofs.types.is_tuple.Goals as goal

pub returns : goal.returns
returns c = c.kind_is_tuple.ensures ∙ tuple_told c.args.table.now (table_type c.args.table.now c.args.ty) c.kind.result c.kind.ensures.is
