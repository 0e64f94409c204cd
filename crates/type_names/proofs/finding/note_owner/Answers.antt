use Rattle.std.proofs.Common.{Option, sym, ap, ◌∙◌}
use Rattle.std.specs.Prelude.{option_map}
use Rattle.type_names.specs.declared.meanings.Owner.{Owner}
use Rattle.type_names.specs.Finding.{variant_in}
use Rattle.type_names.specs.Views.{owner_view}
use Rattle.type_names.specs.FindingViews.{joined, owners_find}
use Rattle.type_names.proofs.SameOwners.{noted}
use Rattle.type_names.proofs.finding.note_owner.Goals as goal

pub returns : goal.returns
returns c = λ items q.
    ap (owners_find items q) c.in_ok-insert.ensures.keys ∙ noted items q c.args.owners.now.keys c.in-Some.owner
    ∙ ap (λ (o : Option Owner). joined (owners_find items q c.args.owners.now.keys) (variant_in items (option_map owner_view o) q)) (sym c.in-Some.is)
