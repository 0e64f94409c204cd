use Rattle.std.proofs.Common.{sym, ap, ◌∙◌}
use Rattle.type_names.specs.Imports.{variant_number}
use Rattle.type_names.specs.Views.{owner_view}
use Rattle.type_names.specs.declared.meanings.Owner.{Owner}
use Rattle.type_names.proofs.Variants.{item_variant_is}
use Rattle.type_names.proofs.names.Names.variant.Goals as goal

pub returns-in-Item : goal.returns-in-Item
returns-in-Item c = λ items are.
    c.item_variant.ensures ∙ (item_variant_is items c.args.self.now are c.in-Item.i c.args.name.now
    ∙ ap (λ (o : Owner). variant_number items (owner_view o) c.args.name.now) (sym c.in-Item.is))
