use Rattle.std.proofs.Common.{◌≡◌, ℕ, List, map, take}
use Rattle.decl_syntax.specs.Items.{item_view}
use Rattle.type_names.specs.Finding.{glob_owners, variants_named, agreed}
use Rattle.type_names.specs.FindingViews.{owners_find}
use Rattle.type_names.proofs.finding.glob_owners.Given as goal

abbrev pub invariant-loop-item : goal.invariant-loop-item
invariant-loop-item l =
    let all = map item_view l.items in
    (q : List ℕ) → owners_find all q l.owners.keys ≡ agreed (variants_named all q (glob_owners all (map item_view (take l.item-index l.items))))
