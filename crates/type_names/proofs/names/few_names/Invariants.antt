use Rattle.std.proofs.Common.{◌≡◌, map, take}
use Rattle.std.specs.Rc.{rc_str_bytes}
use Rattle.decl_syntax.specs.Items.{variant_view}
use Rattle.type_names.proofs.names.few_names.Given as goal

abbrev pub invariant-loop-variant : goal.invariant-loop-variant
invariant-loop-variant l = map rc_str_bytes l.all.items ≡ map (λ v. v.name) (map variant_view (take l.variant-index l.variants))
