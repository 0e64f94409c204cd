use Rattle.std.proofs.Common.{◌≡◌, map, ◌+◌, ◌*◌, length}
use Rattle.decl_lexer.specs.declared.marks.Mark.TheVariants as marks
use Rattle.decl_syntax.specs.Units.{left}
use Rattle.decl_syntax.specs.Patterns.{pattern_view, field_view}
use Rattle.decl_syntax.specs.Reading.{list_at, parts_at}
use Rattle.decl_syntax.specs.PatternReading.{plain_at, alt_at, element_at, closing, fields_at}
use Rattle.decl_syntax.proofs.ListLemmas.{with_front}
use Rattle.decl_syntax.proofs.FieldLemmas.{with_fields}
use Rattle.decl_syntax.proofs.pattern.+patterns.Given as goal

abbrev pub decreases-plain_at : goal.decreases-plain_at
decreases-plain_at l = 12 * l.levels

abbrev pub decreases-alt_at : goal.decreases-alt_at
decreases-alt_at l = 12 * l.levels + 1

abbrev pub decreases-point_pattern : goal.decreases-point_pattern
decreases-point_pattern l = 12 * l.levels + 1

abbrev pub decreases-add_alts : goal.decreases-add_alts
decreases-add_alts l = 12 * l.levels + 2

abbrev pub decreases-whole_at : goal.decreases-whole_at
decreases-whole_at l = 12 * l.levels + 3

abbrev pub decreases-item_at : goal.decreases-item_at
decreases-item_at l = 12 * l.levels + 4

abbrev pub decreases-element_at : goal.decreases-element_at
decreases-element_at l = 12 * l.levels + 5

abbrev pub decreases-items_at : goal.decreases-items_at
decreases-items_at l = 12 * l.levels + 6

abbrev pub decreases-tuple_behind : goal.decreases-tuple_behind
decreases-tuple_behind l = 12 * l.levels + 7

abbrev pub decreases-round_pattern : goal.decreases-round_pattern
decreases-round_pattern l = 12 * l.levels + 8

abbrev pub decreases-path_pattern_at : goal.decreases-path_pattern_at
decreases-path_pattern_at l = 12 * l.levels + 9

abbrev pub decreases-unbound_at : goal.decreases-unbound_at
decreases-unbound_at l = 12 * l.levels + 10

abbrev pub invariant-add_alts-alts : goal.invariant-add_alts-alts
invariant-add_alts-alts l =
    with_front (map pattern_view l.all.items) (parts_at marks.Bar (alt_at (plain_at l.levels)) (left l.rest)) ≡ with_front (map pattern_view l.initial.all.items) (parts_at marks.Bar (alt_at (plain_at l.levels)) (left l.at))

abbrev pub decreases-add_alts-alts : goal.decreases-add_alts-alts
decreases-add_alts-alts l = length (left l.rest)

abbrev pub invariant-items_at-parts : goal.invariant-items_at-parts
invariant-items_at-parts l =
    with_front (map pattern_view l.parts.items) (list_at (closing l.slice) (element_at l.slice (plain_at l.levels)) (left l.rest)) ≡ list_at (closing l.slice) (element_at l.slice (plain_at l.levels)) (left l.at)

abbrev pub decreases-items_at-parts : goal.decreases-items_at-parts
decreases-items_at-parts l = length (left l.rest)

abbrev pub decreases-field_at : goal.decreases-field_at
decreases-field_at l = 12 * l.levels + 4

abbrev pub decreases-fields_at : goal.decreases-fields_at
decreases-fields_at l = 12 * l.levels + 5

abbrev pub invariant-fields_at-fields : goal.invariant-fields_at-fields
invariant-fields_at-fields l = with_fields (map field_view l.fields.items) (fields_at (plain_at l.levels) (left l.rest)) ≡ fields_at (plain_at l.levels) (left l.at)

abbrev pub decreases-fields_at-fields : goal.decreases-fields_at-fields
decreases-fields_at-fields l = length (left l.rest)
