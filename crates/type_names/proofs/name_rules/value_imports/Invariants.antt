use Rattle.std.proofs.Common.{◌≡◌, map, take, filter}
use Rattle.std.specs.Rc.{rc_str_bytes}
use Rattle.std.specs.Prelude.{option_map}
use Rattle.decl_syntax.specs.Items.{item_view}
use Rattle.type_names.specs.Imports.{variant_form}
use Rattle.type_names.specs.NameRules.{is_value_form}
use Rattle.type_names.specs.Views.{owner_view}
use Rattle.type_names.proofs.name_rules.value_imports.Given as goal

abbrev pub invariant-loop-name : goal.invariant-loop-name
invariant-loop-name l = map rc_str_bytes l.all.items
    ≡ filter (λ n. is_value_form (variant_form (map item_view l.items) (option_map owner_view l.owner) n)) (map rc_str_bytes (take l.name-index l.listed))
