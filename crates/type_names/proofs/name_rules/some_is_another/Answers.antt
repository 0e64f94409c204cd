use Rattle.std.proofs.Common.{◌≡◌, true, map, rules}
use Rattle.std.specs.Rc.{rc_str_bytes}
use Rattle.std.specs.Prelude.{is_none}
use Rattle.decl_syntax.specs.Items.{item_view}
use Rattle.type_names.specs.Imports.{variant_number}
use Rattle.type_names.specs.Views.{owner_view}
use Rattle.type_names.proofs.ItemTests.{any_found}
use Rattle.type_names.proofs.name_rules.some_is_another.Goals as goal

pub returns-then-is_another : goal.returns-then-is_another
returns-then-is_another c =
    let here : is_none (variant_number (map item_view c.args.items.now) (owner_view c.args.owner) (rc_str_bytes c.name-item.result)) ≡ true = search rules in
    any_found rc_str_bytes _ c.args.listed.now c.loop-name.name-index c.name-item.result c.loop-name-test.true c.name-item.is here
