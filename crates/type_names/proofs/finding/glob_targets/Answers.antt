use Rattle.std.proofs.Common.{map, ap, ◌∙◌, arith, get_or}
use Rattle.std.proofs.lemmas.List.{take_all}
use Rattle.decl_syntax.specs.Items.{item_view}
use Rattle.type_names.specs.FindingViews.{found_in, owners_find}
use Rattle.type_names.specs.declared.meanings.Owner.{Owner}
use Rattle.type_names.specs.declared.meanings.Owner.TheVariants.{Item}
use Rattle.type_names.specs.Views.{owner_view}
use Rattle.type_names.proofs.FindingLemmas.{owners_more, get_or_same}
use Rattle.type_names.proofs.finding.glob_targets.Goals as goal

pub loop-owner-preserved : goal.loop-owner-preserved
loop-owner-preserved c = λ q.
    let d : Owner = Item 0 in
    owners_more owner_view (map item_view c.args.items.now) c.args.owners.now c.loop-owner.owner-index (get_or c.args.owners.now c.loop-owner.owner-index d)
    c.loop-owner-test.true (get_or_same c.args.owners.now c.loop-owner.owner-index d) q
    (found_in c.loop-owner.targets q) (found_in c.join_owner.new.targets q) (c.loop-owner.invariant q) (c.in_ok-join_owner.ensures q)

pub returns : goal.returns
returns c = λ q. c.loop-owner.invariant q ∙ ap (owners_find (map item_view c.args.items.now) q) (take_all c.loop-owner.owner-index c.args.owners.now (omega arith))
