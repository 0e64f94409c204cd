use Rattle.std.proofs.Common.{◌≡◌, map, drop}
use Rattle.decl_syntax.specs.Types.{type_view, types_from}
use Rattle.decl_syntax.specs.Widths.{some_type_is_wide}
use Rattle.decl_syntax.proofs.widths.+type_widths.Given as goal

abbrev pub invariant-some_type_is_wide-loop-ty : goal.invariant-some_type_is_wide-loop-ty
invariant-some_type_is_wide-loop-ty l = some_type_is_wide (types_from (map type_view (drop l.ty-index l.types.items))) ≡ some_type_is_wide (types_from (map type_view l.types.items))
