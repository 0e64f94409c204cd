use Rattle.std.proofs.Common.{◌∙◌}
use Rattle.type_table.specs.Tables.{table_type}
use Rattle.pattern_elaboration.proofs.KindTests.{number_told}
use Rattle.pattern_elaboration.proofs.types.number_kind.Goals as goal

pub returns : goal.returns
returns c = c.kind_number.ensures ∙ number_told c.args.table.now (table_type c.args.table.now c.args.ty) c.kind.result
    c.kind.ensures.is
