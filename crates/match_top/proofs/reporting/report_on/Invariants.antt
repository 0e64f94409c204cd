use Rattle.std.proofs.Common.{map}
use Rattle.decl_syntax.specs.Items.{item_view}
use Rattle.match_top.proofs.reporting.report_on.Given as goal

abbrev pub ghost-all_entries : goal.ghost-all_entries
ghost-all_entries a = map item_view a.items.items
