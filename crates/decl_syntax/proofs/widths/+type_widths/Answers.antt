use Rattle.std.proofs.Common.{map, arith}
use Rattle.std.proofs.lemmas.List.{length-map}
use Rattle.decl_syntax.specs.Types.{type_view}
use Rattle.decl_syntax.proofs.WidthLemmas.{many_types, few_types}
use Rattle.decl_syntax.proofs.widths.+type_widths.Goals as goal

pub types_are_wide-returns-then-len-gt-MOST_PARTS : goal.types_are_wide-returns-then-len-gt-MOST_PARTS
types_are_wide-returns-then-len-gt-MOST_PARTS t c =
    many_types (map type_view c.args.types.now.items) (omega (arith, length-map c.args.types.now.items type_view, c.len.ensures, c.if-len-gt-MOST_PARTS.true))

pub types_are_wide-returns : goal.types_are_wide-returns
types_are_wide-returns t c =
    few_types (map type_view c.args.types.now.items) c.some_type_is_wide.result
    (omega (arith, length-map c.args.types.now.items type_view, c.len.ensures, c.if-len-gt-MOST_PARTS.false)) c.some_type_is_wide.ensures
