use Rattle.std.proofs.Common.{subst}
use Rattle.std.proofs.lemmas.Result.{IfOk-weaker}
use Rattle.usefulness.specs.Memo.{memo_of}
use Rattle.usefulness.specs.Stack.{opened_views}
use Rattle.usefulness.specs.States.{frame_view, is_noted, scope_of}
use Rattle.usefulness.specs.Told.{IsStep}
use Rattle.usefulness.proofs.Steps.{ok_held}
use Rattle.usefulness.proofs.Stepping.{step_early}
use Rattle.usefulness.proofs.look.look_at.Goals as goal

pub returns-then-is_untold-clause-lighter : goal.returns-then-is_untold-clause-lighter
returns-then-is_untold-clause-lighter g c = IfOk-weaker c.split.result _ _ (λ v looked. looked.lighter) c.split.ensures.looked

pub returns-then-is_untold-clause-grow : goal.returns-then-is_untold-clause-grow
returns-then-is_untold-clause-grow g c = ok_held c.split.result c.split.ensures.looked (λ v looked. looked.grow)

pub returns-then-is_untold-clause-stepped : goal.returns-then-is_untold-clause-stepped
returns-then-is_untold-clause-stepped g c =
    let cx = c.args.cx.now in
    IfOk-weaker c.split.result _ _
    (λ v looked. step_early (g.C.PatCx.is_type cx) (g.C.PatCx.is_value cx) (g.C.PatCx.context cx) (scope_of c.args.reached.now) (is_noted c.args.reached.now) (is_noted c.split.new.reached)
    (frame_view c.args.frame) (opened_views (g.C.PatCx.context cx) v) (memo_of c.args.told.now) (memo_of c.is_untold.new.told) c.is_untold.ensures looked)
    c.split.ensures.looked

pub returns-else-is_untold-clause-stepped : goal.returns-else-is_untold-clause-stepped
returns-else-is_untold-clause-stepped g c =
    let cx = c.args.cx.now in
    IfOk-weaker c.look_once.result _ _
    (λ v step. subst (λ ks. IsStep (g.C.PatCx.is_type cx) (g.C.PatCx.is_value cx) (g.C.PatCx.context cx) (scope_of c.args.reached.now) (is_noted c.args.reached.now) (is_noted c.look_once.new.reached)
    (frame_view c.args.frame) (opened_views (g.C.PatCx.context cx) v) ks (memo_of c.look_once.new.told)) c.is_untold.ensures step)
    c.look_once.ensures.stepped
