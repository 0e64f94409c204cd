use Rattle.std.proofs.Common.{◌≡◌, map, ◌+◌, ◌*◌, length}
use Rattle.decl_lexer.specs.declared.marks.Mark.TheVariants as marks
use Rattle.decl_syntax.specs.Units.{left}
use Rattle.decl_syntax.specs.Reading.{list_at}
use Rattle.decl_syntax.proofs.ListLemmas.{with_front}
use Rattle.value_syntax.specs.Trees.{written_view, field_view}
use Rattle.value_syntax.specs.ValueReading.{value_at, field_at}
use Rattle.value_syntax.proofs.reading.+values.Given as goal

abbrev pub decreases-value_at : goal.decreases-value_at
decreases-value_at l = 4 * l.levels

abbrev pub decreases-field_at : goal.decreases-field_at
decreases-field_at l = 4 * l.levels + 1

abbrev pub decreases-values_up_to : goal.decreases-values_up_to
decreases-values_up_to l = 4 * l.levels + 2

abbrev pub decreases-fields_up_to : goal.decreases-fields_up_to
decreases-fields_up_to l = 4 * l.levels + 2

abbrev pub decreases-round_value : goal.decreases-round_value
decreases-round_value l = 4 * l.levels + 3

abbrev pub decreases-row_value : goal.decreases-row_value
decreases-row_value l = 4 * l.levels + 3

abbrev pub decreases-point_value : goal.decreases-point_value
decreases-point_value l = 4 * l.levels + 3

abbrev pub decreases-form_value : goal.decreases-form_value
decreases-form_value l = 4 * l.levels + 3

abbrev pub invariant-values_up_to-parts : goal.invariant-values_up_to-parts
invariant-values_up_to-parts l =
    with_front (map written_view l.parts.items) (list_at l.close (value_at l.levels) (left l.rest)) ≡ list_at l.close
    (value_at l.levels) (left l.at)

abbrev pub decreases-values_up_to-parts : goal.decreases-values_up_to-parts
decreases-values_up_to-parts l = length (left l.rest)

abbrev pub invariant-fields_up_to-fields : goal.invariant-fields_up_to-fields
invariant-fields_up_to-fields l =
    with_front (map field_view l.fields.items)
    (list_at marks.CloseCurly (field_at (value_at l.levels)) (left l.rest)) ≡ list_at marks.CloseCurly
    (field_at (value_at l.levels)) (left l.at)

abbrev pub decreases-fields_up_to-fields : goal.decreases-fields_up_to-fields
decreases-fields_up_to-fields l = length (left l.rest)
