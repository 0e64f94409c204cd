use Rattle.std.proofs.Common.{◌≡◌, false, map, take}
use Rattle.std.specs.List.{list_any}
use Rattle.decl_syntax.specs.Patterns.{attr_view}
use Rattle.type_names.specs.Attributes.{is_gate}
use Rattle.type_names.proofs.attributes.is_gated.Given as goal

abbrev pub invariant-loop-attr : goal.invariant-loop-attr
invariant-loop-attr l = list_any is_gate (map attr_view (take l.attr-index l.attrs)) ≡ false
