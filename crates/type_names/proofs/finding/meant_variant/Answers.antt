use Rattle.std.proofs.Common.{◌≡◌, Option, Some, sym, ap, ◌∙◌, rules}
use Rattle.std.specs.Prelude.{option_map}
use Rattle.type_names.specs.declared.meanings.Meaning.{Meaning}
use Rattle.type_names.specs.declared.meanings.Meaning.TheVariants.{Item}
use Rattle.type_names.specs.Imports.{meant_enum}
use Rattle.type_names.specs.Finding.{variant_in}
use Rattle.type_names.specs.Views.{meaning_view}
use Rattle.type_names.proofs.FindingLemmas.{item_path}
use Rattle.type_names.proofs.finding.meant_variant.Goals as goal

pub returns-in-Some-Item : goal.returns-in-Some-Item
returns-in-Some-Item c =
    let seen : c.args.meaning ≡ Some (Item c.in-Some-Item.i) = search rules in
    λ items are.
    c.numbered.ensures items are ∙ (item_path items c.in-Some-Item.i c.args.name.now
    ∙ ap (λ (m : Option Meaning). variant_in items (meant_enum items (option_map meaning_view m)) c.args.name.now) (sym seen))
