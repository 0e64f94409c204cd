use Rattle.std.proofs.Common.{map}
use Rattle.decl_syntax.specs.Items.{variant_view}
use Rattle.type_names.proofs.Variants.{listed_at}
use Rattle.type_names.proofs.names.variant_names.Goals as goal

pub returns-in_ok-names : goal.returns-in_ok-names
returns-in_ok-names c = listed_at c.in_ok-names.names.items (map variant_view c.args.variants.now) c.in_ok-names.ensures
