use Rattle.std.proofs.Common.{◌≡◌, ◌<◌, ℕ, false, map, take}
use Rattle.decl_syntax.specs.Items.{item_view}
use Rattle.type_names.specs.NameRules.{all_names, taken_names, function_names, value_names}
use Rattle.type_names.specs.Rules.{named_twice_at}
use Rattle.type_names.specs.Views.{AreTaken}
use Rattle.type_names.proofs.name_rules.first_name_twice.Given as goal

abbrev pub invariant-loop-i : goal.invariant-loop-i
invariant-loop-i l =
    let items = map item_view l.items in
    let before = take l.i items in
    AreTaken (all_names taken_names before) (all_names function_names before) (all_names (value_names items) before) l.taken
    × ((j : ℕ) → j < l.i → named_twice_at items j ≡ false)
