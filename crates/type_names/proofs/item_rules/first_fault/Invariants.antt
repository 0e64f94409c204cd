use Rattle.std.proofs.Common.{◌≡◌, ◌<◌, ℕ, false, map}
use Rattle.decl_syntax.specs.Items.{item_view}
use Rattle.type_names.specs.Rules.{breaks_at}
use Rattle.type_names.proofs.item_rules.first_fault.Given as goal

abbrev pub invariant-loop-i : goal.invariant-loop-i
invariant-loop-i l = (j : ℕ) → j < l.i → breaks_at l.rule (map item_view l.items) j ≡ false
