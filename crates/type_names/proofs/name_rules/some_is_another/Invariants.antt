use Rattle.std.proofs.Common.{◌≡◌, false, map, take}
use Rattle.std.specs.Rc.{rc_str_bytes}
use Rattle.std.specs.Prelude.{is_none}
use Rattle.std.specs.List.{list_any}
use Rattle.decl_syntax.specs.Items.{item_view}
use Rattle.type_names.specs.Imports.{variant_number}
use Rattle.type_names.specs.Views.{owner_view}
use Rattle.type_names.proofs.name_rules.some_is_another.Given as goal

abbrev pub invariant-loop-name : goal.invariant-loop-name
invariant-loop-name l = list_any (λ n. is_none (variant_number (map item_view l.items) (owner_view l.owner) n)) (map rc_str_bytes (take l.name-index l.listed)) ≡ false
