use Rattle.std.proofs.Common.{◌≡◌, map, take}
use Rattle.std.specs.Rc.{rc_str_bytes}
use Rattle.decl_syntax.specs.Items.{field_view}
use Rattle.type_names.specs.Written.{field_name}
use Rattle.type_names.proofs.name_rules.field_names.Given as goal

abbrev pub invariant-loop-field : goal.invariant-loop-field
invariant-loop-field l = map rc_str_bytes l.all.items ≡ map (λ f. field_name f.name) (map field_view (take l.field-index l.fields))
