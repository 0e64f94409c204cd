use Rattle.type_table.proofs.ContextLemmas.{table_view, table_values, table_parts, table_empty, table_unsure}
use Rattle.type_table.proofs.table.TypeTable.context_is_lawful.Goals as goal

pub returns : goal.returns
returns c = record {
  view = table_view c.args.self.now;
  values = table_values c.args.self.now;
  parts = table_parts c.args.self.now;
  empty = table_empty c.args.self.now;
  unsure = table_unsure c.args.self.now;
}
