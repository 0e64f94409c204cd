use Rattle.std.proofs.Common.{Option, List, map, ap, ◌∙◌, arith}
use Rattle.match_model.specs.Types.{MOwner}
use Rattle.decl_syntax.specs.Items.{item_view, ItemTree}
use Rattle.type_names.specs.Finding.{glob_owners, variants_named, agreed, variant_in}
use Rattle.type_names.specs.FindingViews.{owners_find, joined}
use Rattle.type_names.proofs.TakenLemmas.{whole_map}
use Rattle.type_names.proofs.FindingLemmas.{globs_more}
use Rattle.type_names.proofs.finding.glob_owners.Goals as goal

pub loop-item-preserved : goal.loop-item-preserved
loop-item-preserved c = λ q.
    let all = map item_view c.args.items.now in
    globs_more item_view all c.args.items.now c.loop-item.item-index c.item-item.result c.loop-item-test.true c.item-item.is q
    (owners_find all q c.loop-item.owners.keys) (owners_find all q c.note_owner.new.owners.keys) (c.loop-item.invariant q)
    (c.in_ok-note_owner.ensures all q
    ∙ ap (λ (o : Option MOwner). joined (owners_find all q c.loop-item.owners.keys) (variant_in all o q)) c.glob_owner.ensures)

pub returns : goal.returns
returns c = λ q.
    let all = map item_view c.args.items.now in
    c.loop-item.invariant q
    ∙ ap (λ (xs : List ItemTree). agreed (variants_named all q (glob_owners all xs))) (whole_map item_view c.args.items.now c.loop-item.item-index (omega arith))
