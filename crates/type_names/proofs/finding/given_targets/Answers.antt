use Rattle.std.proofs.Common.{map, ap, ◌∙◌, arith}
use Rattle.decl_syntax.specs.Items.{item_view}
use Rattle.type_names.specs.Finding.{given_from}
use Rattle.type_names.specs.FindingViews.{found_in}
use Rattle.type_names.proofs.TakenLemmas.{whole_map}
use Rattle.type_names.proofs.FindingLemmas.{given_more}
use Rattle.type_names.proofs.finding.given_targets.Goals as goal

pub loop-i-preserved : goal.loop-i-preserved
loop-i-preserved c = λ q.
    let items = map item_view c.args.items.now in
    given_more item_view items c.args.items.now c.loop-i.i c.index-items-i.result c.loop-i-test.true c.index-items-i.is q
    (found_in c.loop-i.targets q) (found_in c.give_item.new.targets q) (c.loop-i.invariant q) (c.in_ok-give_item.ensures items c.requires q)

pub returns : goal.returns
returns c = λ q.
    c.loop-i.invariant q ∙ ap (given_from (map item_view c.args.items.now) q 0) (whole_map item_view c.args.items.now c.loop-i.i (omega arith))
