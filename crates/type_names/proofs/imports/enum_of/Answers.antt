use Rattle.std.proofs.Common.{map, ap, ◌∙◌}
use Rattle.decl_syntax.specs.Items.{item_view}
use Rattle.type_names.specs.Meanings.{Means}
use Rattle.type_names.specs.Imports.{meant_enum}
use Rattle.type_names.proofs.Variants.{means_are}
use Rattle.type_names.proofs.imports.enum_of.Goals as goal

pub returns : goal.returns
returns c = c.meant_enum.ensures ∙ ap (λ (m : Means). meant_enum (map item_view c.args.items.now) (m c.args.name.now)) (means_are (map item_view c.args.items.now) c.args.names.now c.requires)
