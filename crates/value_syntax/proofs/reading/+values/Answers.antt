use Rattle.std.proofs.Common.{map, sym, ap, subst, ◌∙◌, arith}
use Rattle.std.proofs.lemmas.Result.{err_from_is_err_and}
use Rattle.std.proofs.lemmas.List.{map_push}
use Rattle.decl_lexer.specs.declared.marks.Mark.TheVariants as marks
use Rattle.decl_syntax.specs.Units.{left}
use Rattle.decl_syntax.specs.Reading.{Gives, list_at}
use Rattle.decl_syntax.proofs.ListLemmas.{list_closed, list_stuck, list_last, list_torn, list_goes_on, list_smaller}
use Rattle.value_syntax.specs.Trees.{written_view, field_view}
use Rattle.value_syntax.specs.ValueReading.{value_at, field_at}
use Rattle.value_syntax.proofs.ValueLaws.{values_shrink, fields_shrink, row_reads}
use Rattle.value_syntax.proofs.reading.+values.Goals as goal

pub values_up_to-returns-in-Some : goal.values_up_to-returns-in-Some
values_up_to-returns-in-Some t c = list_closed c.args.close (value_at c.args.levels) (values_shrink c.args.levels)
    (map written_view c.parts.parts.items) (left c.parts.rest)
    (list_at c.args.close (value_at c.args.levels) (left c.args.at)) c.parts.invariant _ c.in-Some.ensures

pub values_up_to-returns-in_err-part : goal.values_up_to-returns-in_err-part
values_up_to-returns-in_err-part t c =
    let p = err_from_is_err_and c.from_residual.result c.from_residual.ensures.1 in
    rw (p.1, p.2) (list_stuck c.args.close (value_at c.args.levels) (values_shrink c.args.levels)
    (map written_view c.parts.parts.items) (left c.parts.rest)
    (list_at c.args.close (value_at c.args.levels) (left c.args.at))
    c.parts.invariant c.in_err-part.field-0.0 c.in_default.ensures c.in_err-part.ensures)

pub values_up_to-returns-in-Some-behind : goal.values_up_to-returns-in-Some-behind
values_up_to-returns-in-Some-behind t c =
    rw (ap (map written_view) c.in_ok-push.ensures.items
    ∙ map_push written_view c.parts.parts.items c.in_ok-part.part)
    (list_last c.args.close (value_at c.args.levels) (values_shrink c.args.levels)
    (map written_view c.parts.parts.items) (left c.parts.rest)
    (list_at c.args.close (value_at c.args.levels) (left c.args.at))
    c.parts.invariant _ _ _ c.in_default.ensures c.in_ok-part.ensures c.in-Some-behind.ensures)

pub values_up_to-returns-in_default-behind-2 : goal.values_up_to-returns-in_default-behind-2
values_up_to-returns-in_default-behind-2 t c =
    list_torn c.args.close (value_at c.args.levels) (values_shrink c.args.levels)
    (map written_view c.parts.parts.items) (left c.parts.rest)
    (list_at c.args.close (value_at c.args.levels) (left c.args.at))
    c.parts.invariant _ _ c.in_default.ensures c.in_ok-part.ensures c.in_default-behind.ensures
    c.in_default-behind-2.ensures

pub values_up_to-parts-smaller : goal.values_up_to-parts-smaller
values_up_to-parts-smaller t c = list_smaller c.args.close (value_at c.args.levels) (values_shrink c.args.levels)
    (map written_view c.parts.parts.items) (left c.parts.rest)
    (list_at c.args.close (value_at c.args.levels) (left c.args.at))
    c.parts.invariant _ _ _ c.in_ok-part.ensures c.in-Some-behind-2.ensures

pub values_up_to-parts-preserved : goal.values_up_to-parts-preserved
values_up_to-parts-preserved t c =
    rw (ap (map written_view) c.in_ok-push.ensures.items
    ∙ map_push written_view c.parts.parts.items c.in_ok-part.part)
    (list_goes_on c.args.close (value_at c.args.levels) (values_shrink c.args.levels)
    (map written_view c.parts.parts.items) (left c.parts.rest)
    (list_at c.args.close (value_at c.args.levels) (left c.args.at))
    c.parts.invariant _ _ _ c.in_default.ensures c.in_ok-part.ensures c.in_default-behind.ensures
    c.in-Some-behind-2.ensures)

pub fields_up_to-returns-in-Some : goal.fields_up_to-returns-in-Some
fields_up_to-returns-in-Some t c = list_closed marks.CloseCurly (field_at (value_at c.args.levels))
    (fields_shrink c.args.levels) (map field_view c.fields.fields.items) (left c.fields.rest)
    (list_at marks.CloseCurly (field_at (value_at c.args.levels)) (left c.args.at))
    c.fields.invariant _ c.in-Some.ensures

pub fields_up_to-returns-in_err-field : goal.fields_up_to-returns-in_err-field
fields_up_to-returns-in_err-field t c =
    let p = err_from_is_err_and c.from_residual.result c.from_residual.ensures.1 in
    rw (p.1, p.2) (list_stuck marks.CloseCurly (field_at (value_at c.args.levels)) (fields_shrink c.args.levels)
    (map field_view c.fields.fields.items) (left c.fields.rest)
    (list_at marks.CloseCurly (field_at (value_at c.args.levels)) (left c.args.at))
    c.fields.invariant c.in_err-field.field-0.0 c.in_default.ensures c.in_err-field.ensures)

pub fields_up_to-returns-in-Some-behind : goal.fields_up_to-returns-in-Some-behind
fields_up_to-returns-in-Some-behind t c =
    rw (ap (map field_view) c.in_ok-push.ensures.items
    ∙ map_push field_view c.fields.fields.items c.in_ok-field.field)
    (list_last marks.CloseCurly (field_at (value_at c.args.levels)) (fields_shrink c.args.levels)
    (map field_view c.fields.fields.items) (left c.fields.rest)
    (list_at marks.CloseCurly (field_at (value_at c.args.levels)) (left c.args.at))
    c.fields.invariant _ _ _ c.in_default.ensures c.in_ok-field.ensures c.in-Some-behind.ensures)

pub fields_up_to-returns-in_default-behind-2 : goal.fields_up_to-returns-in_default-behind-2
fields_up_to-returns-in_default-behind-2 t c =
    list_torn marks.CloseCurly (field_at (value_at c.args.levels)) (fields_shrink c.args.levels)
    (map field_view c.fields.fields.items) (left c.fields.rest)
    (list_at marks.CloseCurly (field_at (value_at c.args.levels)) (left c.args.at))
    c.fields.invariant _ _ c.in_default.ensures c.in_ok-field.ensures c.in_default-behind.ensures
    c.in_default-behind-2.ensures

pub fields_up_to-fields-smaller : goal.fields_up_to-fields-smaller
fields_up_to-fields-smaller t c = list_smaller marks.CloseCurly (field_at (value_at c.args.levels))
    (fields_shrink c.args.levels) (map field_view c.fields.fields.items) (left c.fields.rest)
    (list_at marks.CloseCurly (field_at (value_at c.args.levels)) (left c.args.at))
    c.fields.invariant _ _ _ c.in_ok-field.ensures c.in-Some-behind-2.ensures

pub fields_up_to-fields-preserved : goal.fields_up_to-fields-preserved
fields_up_to-fields-preserved t c =
    rw (ap (map field_view) c.in_ok-push.ensures.items
    ∙ map_push field_view c.fields.fields.items c.in_ok-field.field)
    (list_goes_on marks.CloseCurly (field_at (value_at c.args.levels)) (fields_shrink c.args.levels)
    (map field_view c.fields.fields.items) (left c.fields.rest)
    (list_at marks.CloseCurly (field_at (value_at c.args.levels)) (left c.args.at))
    c.fields.invariant _ _ _ c.in_default.ensures c.in_ok-field.ensures
    c.in_default-behind.ensures c.in-Some-behind-2.ensures)

pub value_at-returns-in-Some-behind : goal.value_at-returns-in-Some-behind
value_at-returns-in-Some-behind t c =
    let same = row_reads c.args.levels (left c.args.at) (left c.in-Some-behind.rest)
    (omega (arith, c.if-levels-eq0.false)) c.in_default.ensures c.in-Some-behind.ensures in
    subst (λ read. Gives (λ x. (written_view x.0, left x.1)) c.row_value.result read) (sym same) c.row_value.ensures
