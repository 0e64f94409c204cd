use Rattle.std.proofs.Common.{◌≡◌, ◌++◌, ◌∷◌, [], map, sym, refl, ap, ◌∙◌, List, Option}
use Rattle.std.specs.Prelude.{option_map}
use Rattle.std.proofs.lemmas.Result.{err_from_is_err_and}
use Rattle.std.proofs.lemmas.List.{map_push}
use Rattle.decl_lexer.specs.declared.marks.Mark.TheVariants as marks
use Rattle.decl_syntax.specs.Units.{left}
use Rattle.decl_syntax.specs.Types.{TypeTree, type_view}
use Rattle.decl_syntax.specs.TypeGrammar.{somes}
use Rattle.decl_syntax.specs.Reading.{list_at}
use Rattle.decl_syntax.specs.TypeReading.{type_at, argument_at}
use Rattle.decl_syntax.proofs.ListLemmas.{list_closed, list_stuck, list_last, list_torn, list_goes_on, list_smaller, no_front}
use Rattle.decl_syntax.proofs.TypeLaws.{types_shrink, arguments_shrink, somes_push, arguments_stuck}
use Rattle.decl_syntax.proofs.ty.+types.Goals as goal

pub tuple_parts-returns-in-Some : goal.tuple_parts-returns-in-Some
tuple_parts-returns-in-Some t c = list_closed marks.CloseRound (type_at c.args.levels) (types_shrink c.args.levels) (map type_view c.parts.parts.items) (left c.parts.rest) (list_at marks.CloseRound (type_at c.args.levels) (left c.args.at)) c.parts.invariant _ c.in-Some.ensures

pub tuple_parts-returns-in_err-part : goal.tuple_parts-returns-in_err-part
tuple_parts-returns-in_err-part t c =
    let p = err_from_is_err_and c.from_residual.result c.from_residual.ensures.1 in
    rw (p.1, p.2) (list_stuck marks.CloseRound (type_at c.args.levels) (types_shrink c.args.levels) (map type_view c.parts.parts.items) (left c.parts.rest) (list_at marks.CloseRound (type_at c.args.levels) (left c.args.at)) c.parts.invariant c.in_err-part.field-0.0 c.in_default.ensures c.in_err-part.ensures)

pub tuple_parts-returns-in-Some-behind : goal.tuple_parts-returns-in-Some-behind
tuple_parts-returns-in-Some-behind t c =
    rw (ap (map type_view) c.in_ok-push.ensures.items ∙ map_push type_view c.parts.parts.items c.in_ok-part.part) (list_last marks.CloseRound (type_at c.args.levels) (types_shrink c.args.levels) (map type_view c.parts.parts.items) (left c.parts.rest) (list_at marks.CloseRound (type_at c.args.levels) (left c.args.at)) c.parts.invariant _ _ _ c.in_default.ensures c.in_ok-part.ensures c.in-Some-behind.ensures)

pub tuple_parts-returns-in_default-behind-2 : goal.tuple_parts-returns-in_default-behind-2
tuple_parts-returns-in_default-behind-2 t c =
    list_torn marks.CloseRound (type_at c.args.levels) (types_shrink c.args.levels) (map type_view c.parts.parts.items) (left c.parts.rest) (list_at marks.CloseRound (type_at c.args.levels) (left c.args.at)) c.parts.invariant _ _ c.in_default.ensures c.in_ok-part.ensures c.in_default-behind.ensures c.in_default-behind-2.ensures

pub tuple_parts-parts-smaller : goal.tuple_parts-parts-smaller
tuple_parts-parts-smaller t c = list_smaller marks.CloseRound (type_at c.args.levels) (types_shrink c.args.levels) (map type_view c.parts.parts.items) (left c.parts.rest) (list_at marks.CloseRound (type_at c.args.levels) (left c.args.at)) c.parts.invariant _ _ _ c.in_ok-part.ensures c.in-Some-behind-2.ensures

pub tuple_parts-parts-preserved : goal.tuple_parts-parts-preserved
tuple_parts-parts-preserved t c =
    rw (ap (map type_view) c.in_ok-push.ensures.items ∙ map_push type_view c.parts.parts.items c.in_ok-part.part) (list_goes_on marks.CloseRound (type_at c.args.levels) (types_shrink c.args.levels) (map type_view c.parts.parts.items) (left c.parts.rest) (list_at marks.CloseRound (type_at c.args.levels) (left c.args.at)) c.parts.invariant _ _ _ c.in_default.ensures c.in_ok-part.ensures c.in_default-behind.ensures c.in-Some-behind-2.ensures)

-- the front and one more
front_and : (front : List (Option TypeTree)) (x : Option TypeTree) (old new : List TypeTree) → somes front ≡ old → new ≡ old ++ somes (x ∷ []) → somes (front ++ x ∷ []) ≡ new
front_and front x old new e f = somes_push front x ∙ ap (λ ys. ys ++ somes (x ∷ [])) e ∙ sym f

pub type_args-parts-init : goal.type_args-parts-init
type_args-parts-init t c = ([], rw c.new-parts.ensures.items refl, no_front _)

pub type_args-returns-in-Some : goal.type_args-returns-in-Some
type_args-returns-in-Some t c = rw (list_closed marks.Greater (argument_at (type_at c.args.levels)) (arguments_shrink c.args.levels) c.parts.invariant.0 (left c.parts.rest) (list_at marks.Greater (argument_at (type_at c.args.levels)) (left c.args.at)) c.parts.invariant.2 _ c.in-Some.ensures, c.parts.invariant.1) refl

pub type_args-returns-in_err-part : goal.type_args-returns-in_err-part
type_args-returns-in_err-part t c =
    let p = err_from_is_err_and c.from_residual.result c.from_residual.ensures.1 in
    rw (p.1, p.2) (arguments_stuck c.in_err-part.field-0.0 _ (list_stuck marks.Greater (argument_at (type_at c.args.levels)) (arguments_shrink c.args.levels) c.parts.invariant.0 (left c.parts.rest) (list_at marks.Greater (argument_at (type_at c.args.levels)) (left c.args.at)) c.parts.invariant.2 c.in_err-part.field-0.0 c.in_default.ensures c.in_err-part.ensures))

pub type_args-returns-in-Some-behind : goal.type_args-returns-in-Some-behind
type_args-returns-in-Some-behind t c =
    rw (list_last marks.Greater (argument_at (type_at c.args.levels)) (arguments_shrink c.args.levels) c.parts.invariant.0 (left c.parts.rest) (list_at marks.Greater (argument_at (type_at c.args.levels)) (left c.args.at)) c.parts.invariant.2 _ _ _ c.in_default.ensures c.in_ok-part.ensures c.in-Some-behind.ensures, front_and c.parts.invariant.0 _ _ _ c.parts.invariant.1 c.in_ok-push_some.ensures.pushed) refl

pub type_args-returns-in_default-behind-2 : goal.type_args-returns-in_default-behind-2
type_args-returns-in_default-behind-2 t c =
    rw (list_torn marks.Greater (argument_at (type_at c.args.levels)) (arguments_shrink c.args.levels) c.parts.invariant.0 (left c.parts.rest) (list_at marks.Greater (argument_at (type_at c.args.levels)) (left c.args.at)) c.parts.invariant.2 _ _ c.in_default.ensures c.in_ok-part.ensures c.in_default-behind.ensures c.in_default-behind-2.ensures) refl

pub type_args-parts-smaller : goal.type_args-parts-smaller
type_args-parts-smaller t c = list_smaller marks.Greater (argument_at (type_at c.args.levels)) (arguments_shrink c.args.levels) c.parts.invariant.0 (left c.parts.rest) (list_at marks.Greater (argument_at (type_at c.args.levels)) (left c.args.at)) c.parts.invariant.2 _ _ _ c.in_ok-part.ensures c.in-Some-behind-2.ensures

pub type_args-parts-preserved : goal.type_args-parts-preserved
type_args-parts-preserved t c = (
  c.parts.invariant.0 ++ option_map type_view c.in_ok-part.part ∷ [],
  front_and c.parts.invariant.0 _ _ _ c.parts.invariant.1 c.in_ok-push_some.ensures.pushed,
  list_goes_on marks.Greater (argument_at (type_at c.args.levels)) (arguments_shrink c.args.levels) c.parts.invariant.0 (left c.parts.rest) (list_at marks.Greater (argument_at (type_at c.args.levels)) (left c.args.at)) c.parts.invariant.2 _ _ _ c.in_default.ensures c.in_ok-part.ensures c.in_default-behind.ensures c.in-Some-behind-2.ensures,
)
