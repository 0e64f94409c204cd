use Rattle.std.proofs.Common.{◌≡◌, false, map, take}
use Rattle.std.specs.List.{list_any}
use Rattle.decl_syntax.specs.Patterns.{attr_view}
use Rattle.type_names.specs.Written.{is_mark}
use Rattle.type_names.proofs.attributes.is_marked.Given as goal

abbrev pub invariant-loop-attr : goal.invariant-loop-attr
invariant-loop-attr l = list_any is_mark (map attr_view (take l.attr-index l.attrs)) ≡ false
