use Rattle.std.proofs.Common.{map, ap, ◌∙◌}
use Rattle.std.specs.Rc.{rc_str_bytes}
use Rattle.std.proofs.lemmas.Result.{err_from_is_err_and}
use Rattle.std.proofs.lemmas.List.{map_push}
use Rattle.decl_lexer.specs.declared.marks.Mark.TheVariants as marks
use Rattle.decl_syntax.specs.Units.{left, token_at, name_of}
use Rattle.decl_syntax.proofs.ListLemmas.{no_front, list_closed, list_stuck, list_last, list_torn, list_goes_on, list_smaller}
use Rattle.decl_parser.specs.DeclarationReading.{name_list_at}
use Rattle.decl_parser.proofs.NameLaws.{names_shrink}
use Rattle.decl_parser.proofs.names.name_list_at.Goals as goal

pub found-init : goal.found-init
unfolding name_list_at
found-init c = rw c.new-found.ensures.items (no_front _)

pub returns-in-Some : goal.returns-in-Some
returns-in-Some c = list_closed marks.CloseCurly (token_at name_of) names_shrink (map rc_str_bytes c.found.found.items) (left c.found.rest) (name_list_at (left c.args.at)) c.found.invariant _ c.in-Some.ensures

pub returns-in_err-one : goal.returns-in_err-one
returns-in_err-one c =
    let p = err_from_is_err_and c.from_residual.result c.from_residual.ensures.1 in
    rw (p.1, p.2) (list_stuck marks.CloseCurly (token_at name_of) names_shrink (map rc_str_bytes c.found.found.items) (left c.found.rest) (name_list_at (left c.args.at)) c.found.invariant c.in_err-one.field-0.0 c.in_default.ensures c.in_err-one.ensures)

pub returns-in-Some-behind : goal.returns-in-Some-behind
returns-in-Some-behind c =
    rw (ap (map rc_str_bytes) c.in_ok-push.ensures.items ∙ map_push rc_str_bytes c.found.found.items c.in_ok-one.one)
    (list_last marks.CloseCurly (token_at name_of) names_shrink (map rc_str_bytes c.found.found.items) (left c.found.rest) (name_list_at (left c.args.at)) c.found.invariant _ _ _ c.in_default.ensures c.in_ok-one.ensures c.in-Some-behind.ensures)

pub returns-in_default-behind-2 : goal.returns-in_default-behind-2
returns-in_default-behind-2 c =
    list_torn marks.CloseCurly (token_at name_of) names_shrink (map rc_str_bytes c.found.found.items) (left c.found.rest) (name_list_at (left c.args.at)) c.found.invariant _ _ c.in_default.ensures c.in_ok-one.ensures c.in_default-behind.ensures c.in_default-behind-2.ensures

pub found-smaller : goal.found-smaller
found-smaller c = list_smaller marks.CloseCurly (token_at name_of) names_shrink (map rc_str_bytes c.found.found.items) (left c.found.rest) (name_list_at (left c.args.at)) c.found.invariant _ _ _ c.in_ok-one.ensures c.in-Some-behind-2.ensures

pub found-preserved : goal.found-preserved
found-preserved c =
    rw (ap (map rc_str_bytes) c.in_ok-push.ensures.items ∙ map_push rc_str_bytes c.found.found.items c.in_ok-one.one)
    (list_goes_on marks.CloseCurly (token_at name_of) names_shrink (map rc_str_bytes c.found.found.items) (left c.found.rest) (name_list_at (left c.args.at)) c.found.invariant _ _ _ c.in_default.ensures c.in_ok-one.ensures c.in_default-behind.ensures c.in-Some-behind-2.ensures)
