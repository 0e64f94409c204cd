use Rattle.std.proofs.Common.{◌≡◌, ℕ, List, map, take}
use Rattle.decl_syntax.specs.Items.{item_view}
use Rattle.type_names.specs.FindingViews.{found_in, owners_find}
use Rattle.type_names.proofs.finding.glob_targets.Given as goal

abbrev pub invariant-loop-owner : goal.invariant-loop-owner
invariant-loop-owner l = (q : List ℕ) → found_in l.targets q ≡ owners_find (map item_view l.items) q (take l.owner-index l.owners)
