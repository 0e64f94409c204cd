use Rattle.std.proofs.Common.{◌≡◌, map, ◌+◌, ◌*◌, length, List, Option}
use Rattle.decl_lexer.specs.declared.marks.Mark.TheVariants as marks
use Rattle.decl_syntax.specs.Units.{left}
use Rattle.decl_syntax.specs.Types.{TypeTree, type_view}
use Rattle.decl_syntax.specs.TypeGrammar.{somes}
use Rattle.decl_syntax.specs.Reading.{list_at}
use Rattle.decl_syntax.specs.TypeReading.{type_at, argument_at}
use Rattle.decl_syntax.proofs.ListLemmas.{with_front}
use Rattle.decl_syntax.proofs.ty.+types.Given as goal

abbrev pub decreases-type_at : goal.decreases-type_at
decreases-type_at l = 4 * l.levels

abbrev pub decreases-argument_at : goal.decreases-argument_at
decreases-argument_at l = 4 * l.levels + 1

abbrev pub decreases-tuple_parts : goal.decreases-tuple_parts
decreases-tuple_parts l = 4 * l.levels + 2

abbrev pub decreases-type_args : goal.decreases-type_args
decreases-type_args l = 4 * l.levels + 2

abbrev pub decreases-named_type : goal.decreases-named_type
decreases-named_type l = 4 * l.levels + 3

abbrev pub decreases-round_type : goal.decreases-round_type
decreases-round_type l = 4 * l.levels + 3

abbrev pub decreases-square_type : goal.decreases-square_type
decreases-square_type l = 4 * l.levels + 3

abbrev pub decreases-point_type : goal.decreases-point_type
decreases-point_type l = 4 * l.levels + 3

abbrev pub invariant-tuple_parts-parts : goal.invariant-tuple_parts-parts
invariant-tuple_parts-parts l =
    with_front (map type_view l.parts.items) (list_at marks.CloseRound (type_at l.levels) (left l.rest)) ≡ list_at marks.CloseRound (type_at l.levels) (left l.at)

abbrev pub decreases-tuple_parts-parts : goal.decreases-tuple_parts-parts
decreases-tuple_parts-parts l = length (left l.rest)

abbrev pub invariant-type_args-parts : goal.invariant-type_args-parts
invariant-type_args-parts l =
    (front : List (Option TypeTree)) × (somes front ≡ map type_view l.parts.items)
    × (with_front front (list_at marks.Greater (argument_at (type_at l.levels)) (left l.rest)) ≡ list_at marks.Greater (argument_at (type_at l.levels)) (left l.at))

abbrev pub decreases-type_args-parts : goal.decreases-type_args-parts
decreases-type_args-parts l = length (left l.rest)
