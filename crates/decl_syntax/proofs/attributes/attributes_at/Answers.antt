use Rattle.std.proofs.Common.{map, ap, ◌∙◌}
use Rattle.std.proofs.lemmas.Result.{err_from_is_err_and}
use Rattle.std.proofs.lemmas.List.{map_push}
use Rattle.decl_lexer.specs.declared.marks.Mark.TheVariants as marks
use Rattle.decl_syntax.specs.Units.{left}
use Rattle.decl_syntax.specs.Patterns.{attr_view}
use Rattle.decl_syntax.specs.RunReading.{attribute_at, attributes_at}
use Rattle.decl_syntax.proofs.ListLemmas.{no_front, many_end, many_stuck, many_go_on}
use Rattle.decl_syntax.proofs.RunLaws.{attributes_shrink}
use Rattle.decl_syntax.proofs.attributes.attributes_at.Goals as goal

pub found-init : goal.found-init
unfolding attributes_at
found-init c = rw c.new-found.ensures.items (no_front _)

pub returns-in_default : goal.returns-in_default
returns-in_default c = many_end marks.Hash attribute_at attributes_shrink (map attr_view c.found.found.items) (left c.found.rest) (attributes_at (left c.args.at)) c.found.invariant c.in_default.ensures

pub returns-in_err-one : goal.returns-in_err-one
returns-in_err-one c =
    let p = err_from_is_err_and c.from_residual.result c.from_residual.ensures.1 in
    rw (p.1, p.2) (many_stuck marks.Hash attribute_at attributes_shrink (map attr_view c.found.found.items) (left c.found.rest) (attributes_at (left c.args.at)) c.found.invariant c.in_err-one.field-0.0 _ c.in-Some.ensures c.in_err-one.ensures)

pub found-smaller : goal.found-smaller
found-smaller c = attributes_shrink (left c.found.rest) (left c.in_ok-one.after) _ c.in_ok-one.ensures

pub found-preserved : goal.found-preserved
found-preserved c =
    rw (ap (map attr_view) c.in_ok-push.ensures.items ∙ map_push attr_view c.found.found.items c.in_ok-one.one)
    (many_go_on marks.Hash attribute_at attributes_shrink (map attr_view c.found.found.items) (left c.found.rest) (attributes_at (left c.args.at)) c.found.invariant _ _ _ c.in-Some.ensures c.in_ok-one.ensures)
