use Rattle.std.proofs.Common.{ap, ◌∙◌}
use Rattle.std.specs.Prelude.{Option}
use Rattle.type_names.specs.Meanings.{Meaning, Means}
use Rattle.type_names.specs.Imports.{meant_enum}
use Rattle.type_names.specs.Finding.{variant_in}
use Rattle.type_names.proofs.Variants.{means_are}
use Rattle.type_names.proofs.finding.path_variant.Goals as goal

pub returns : goal.returns
returns c = λ items are.
    c.meant_variant.ensures items are
    ∙ (ap (λ (m : Option Meaning). variant_in items (meant_enum items m) c.args.name.now) c.meaning.ensures
    ∙ ap (λ (m : Means). variant_in items (meant_enum items (m c.args.owner.now)) c.args.name.now) (means_are items c.args.names.now are))
