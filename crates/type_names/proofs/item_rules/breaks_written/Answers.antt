use Rattle.std.proofs.Common.{map, ap, ◌∙◌}
use Rattle.decl_syntax.specs.Items.{item_view, kind_view}
use Rattle.type_names.specs.Meanings.{Means}
use Rattle.type_names.specs.TypeRules.{some_type, type_test}
use Rattle.type_names.proofs.Variants.{means_are}
use Rattle.type_names.proofs.item_rules.breaks_written.Goals as goal

pub returns : goal.returns
returns c = c.breaks_in_item.ensures ∙ ap (λ (m : Means). some_type m (type_test c.args.rule m) (kind_view c.args.item.now.kind)) (means_are (map item_view c.args.items.now) c.args.names.now c.requires)
