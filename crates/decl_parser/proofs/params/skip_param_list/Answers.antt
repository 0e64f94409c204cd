use Rattle.std.proofs.Common.{◌++◌, ◌∷◌, [], refl, sym}
use Rattle.decl_lexer.specs.declared.marks.Mark.TheVariants as marks
use Rattle.decl_syntax.specs.declared.stop.Stop.TheVariants as stops
use Rattle.decl_syntax.specs.Units.{left}
use Rattle.decl_syntax.proofs.ListLemmas.{no_front, list_closed, list_stuck, list_last, list_torn, list_goes_on, list_smaller}
use Rattle.decl_parser.specs.DeclarationReading.{param_at, param_list_at}
use Rattle.decl_parser.proofs.ParamLaws.{params_shrink, param_some, param_none}
use Rattle.decl_parser.proofs.params.skip_param_list.Goals as goal

pub params-init : goal.params-init
unfolding param_list_at
params-init c = ([], no_front _)

pub returns-in-Some : goal.returns-in-Some
returns-in-Some c =
    rw (list_closed marks.Greater param_at params_shrink c.params.invariant.0 (left c.params.rest) (param_list_at (left c.args.at)) c.params.invariant.1 _ c.in-Some.ensures) refl

pub returns-in_default-skip_param : goal.returns-in_default-skip_param
returns-in_default-skip_param c =
    rw (list_stuck marks.Greater param_at params_shrink c.params.invariant.0 (left c.params.rest) (param_list_at (left c.args.at)) c.params.invariant.1 stops.Syntax c.in_default.ensures
    (param_none (left c.params.rest) (sym c.in_default-skip_param.ensures))) refl

pub returns-in-Some-behind : goal.returns-in-Some-behind
returns-in-Some-behind c =
    rw (list_last marks.Greater param_at params_shrink c.params.invariant.0 (left c.params.rest) (param_list_at (left c.args.at)) c.params.invariant.1 _ _ _ c.in_default.ensures
    (param_some (left c.params.rest) _ (sym c.in-Some-skip_param.ensures)) c.in-Some-behind.ensures) refl

pub returns-in_default-behind-2 : goal.returns-in_default-behind-2
returns-in_default-behind-2 c =
    rw (list_torn marks.Greater param_at params_shrink c.params.invariant.0 (left c.params.rest) (param_list_at (left c.args.at)) c.params.invariant.1 _ _ c.in_default.ensures
    (param_some (left c.params.rest) _ (sym c.in-Some-skip_param.ensures)) c.in_default-behind.ensures c.in_default-behind-2.ensures) refl

pub params-smaller : goal.params-smaller
params-smaller c =
    list_smaller marks.Greater param_at params_shrink c.params.invariant.0 (left c.params.rest) (param_list_at (left c.args.at)) c.params.invariant.1 _ _ _
    (param_some (left c.params.rest) _ (sym c.in-Some-skip_param.ensures)) c.in-Some-behind-2.ensures

pub params-preserved : goal.params-preserved
params-preserved c = (
  c.params.invariant.0 ++ tt ∷ [],
  list_goes_on marks.Greater param_at params_shrink c.params.invariant.0 (left c.params.rest) (param_list_at (left c.args.at)) c.params.invariant.1 _ _ _ c.in_default.ensures
      (param_some (left c.params.rest) _ (sym c.in-Some-skip_param.ensures)) c.in_default-behind.ensures c.in-Some-behind-2.ensures,
)
