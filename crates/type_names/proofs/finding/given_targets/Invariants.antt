use Rattle.std.proofs.Common.{◌≡◌, ℕ, List, map, take}
use Rattle.decl_syntax.specs.Items.{item_view}
use Rattle.type_names.specs.Finding.{given_from}
use Rattle.type_names.specs.FindingViews.{found_in}
use Rattle.type_names.proofs.finding.given_targets.Given as goal

abbrev pub invariant-loop-i : goal.invariant-loop-i
invariant-loop-i l = (q : List ℕ) → found_in l.targets q ≡ given_from (map item_view l.items) q 0 (map item_view (take l.i l.items))
