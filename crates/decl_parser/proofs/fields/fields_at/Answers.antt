use Rattle.std.proofs.Common.{map, ap, ◌∙◌}
use Rattle.std.proofs.lemmas.Result.{err_from_is_err_and}
use Rattle.std.proofs.lemmas.List.{map_push}
use Rattle.decl_syntax.specs.Units.{left}
use Rattle.decl_syntax.proofs.ListLemmas.{no_front, list_closed, list_stuck, list_last, list_torn, list_goes_on, list_smaller}
use Rattle.decl_syntax.specs.Items.{field_view}
use Rattle.decl_parser.specs.DeclarationReading.{field_at, fields_at}
use Rattle.decl_parser.proofs.FieldLaws.{fields_shrink}
use Rattle.decl_parser.proofs.fields.fields_at.Goals as goal

pub found-init : goal.found-init
unfolding fields_at
found-init c = rw (c.new-found.ensures.items, c.closing-close.ensures) (no_front _)

pub returns-in-Some : goal.returns-in-Some
returns-in-Some c = list_closed c.closing-close.result (field_at c.args.braced) (fields_shrink c.args.braced) (map field_view c.found.found.items) (left c.found.rest) (fields_at c.args.braced (left c.args.at)) c.found.invariant _ c.in-Some.ensures

pub returns-in_err-one : goal.returns-in_err-one
returns-in_err-one c =
    let p = err_from_is_err_and c.from_residual.result c.from_residual.ensures.1 in
    rw (p.1, p.2) (list_stuck c.closing-close.result (field_at c.args.braced) (fields_shrink c.args.braced) (map field_view c.found.found.items) (left c.found.rest) (fields_at c.args.braced (left c.args.at)) c.found.invariant c.in_err-one.field-0.0 c.in_default.ensures c.in_err-one.ensures)

pub returns-in-Some-behind : goal.returns-in-Some-behind
returns-in-Some-behind c =
    rw (ap (map field_view) c.in_ok-push.ensures.items ∙ map_push field_view c.found.found.items c.in_ok-one.one)
    (list_last c.closing-close.result (field_at c.args.braced) (fields_shrink c.args.braced) (map field_view c.found.found.items) (left c.found.rest) (fields_at c.args.braced (left c.args.at)) c.found.invariant _ _ _ c.in_default.ensures c.in_ok-one.ensures c.in-Some-behind.ensures)

pub returns-in_default-behind-2 : goal.returns-in_default-behind-2
returns-in_default-behind-2 c =
    list_torn c.closing-close.result (field_at c.args.braced) (fields_shrink c.args.braced) (map field_view c.found.found.items) (left c.found.rest) (fields_at c.args.braced (left c.args.at)) c.found.invariant _ _ c.in_default.ensures c.in_ok-one.ensures c.in_default-behind.ensures c.in_default-behind-2.ensures

pub found-smaller : goal.found-smaller
found-smaller c = list_smaller c.closing-close.result (field_at c.args.braced) (fields_shrink c.args.braced) (map field_view c.found.found.items) (left c.found.rest) (fields_at c.args.braced (left c.args.at)) c.found.invariant _ _ _ c.in_ok-one.ensures c.in-Some-behind-2.ensures

pub found-preserved : goal.found-preserved
found-preserved c =
    rw (ap (map field_view) c.in_ok-push.ensures.items ∙ map_push field_view c.found.found.items c.in_ok-one.one)
    (list_goes_on c.closing-close.result (field_at c.args.braced) (fields_shrink c.args.braced) (map field_view c.found.found.items) (left c.found.rest) (fields_at c.args.braced (left c.args.at)) c.found.invariant _ _ _ c.in_default.ensures c.in_ok-one.ensures c.in_default-behind.ensures c.in-Some-behind-2.ensures)
