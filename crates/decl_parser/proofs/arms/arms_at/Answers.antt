use Rattle.std.proofs.Common.{map, ap, ◌∙◌}
use Rattle.std.proofs.lemmas.Result.{err_from_is_err_and}
use Rattle.std.proofs.lemmas.List.{map_push}
use Rattle.decl_syntax.specs.Units.{left}
use Rattle.decl_syntax.proofs.ListLemmas.{no_front}
use Rattle.decl_syntax.specs.Items.{arm_view}
use Rattle.decl_parser.specs.ArmReading.{arms_at}
use Rattle.decl_parser.proofs.ArmLaws.{arm_reading_shrinks, arms_end, arms_stuck, arms_go_on}
use Rattle.decl_parser.proofs.arms.arms_at.Goals as goal

pub arms-init : goal.arms-init
arms-init c = rw c.new-arms.ensures.items (no_front _)

pub returns-in-Some : goal.returns-in-Some
returns-in-Some c = arms_end (map arm_view c.arms.arms.items) (left c.arms.rest) (arms_at (left c.args.at)) c.arms.invariant _ c.in-Some.ensures

pub returns-in_err-arm : goal.returns-in_err-arm
returns-in_err-arm c =
    let p = err_from_is_err_and c.from_residual.result c.from_residual.ensures.1 in
    rw (p.1, p.2) (arms_stuck (map arm_view c.arms.arms.items) (left c.arms.rest) (arms_at (left c.args.at)) c.arms.invariant c.in_err-arm.field-0.0 c.in_default.ensures c.in_err-arm.ensures)

pub arms-smaller : goal.arms-smaller
arms-smaller c = arm_reading_shrinks (left c.arms.rest) (left c.in_ok-arm.after) _ c.in_ok-arm.ensures

pub arms-preserved : goal.arms-preserved
arms-preserved c =
    rw (ap (map arm_view) c.in_ok-push.ensures.items ∙ map_push arm_view c.arms.arms.items c.in_ok-arm.arm)
    (arms_go_on (map arm_view c.arms.arms.items) (left c.arms.rest) (arms_at (left c.args.at)) c.arms.invariant _ _ c.in_default.ensures c.in_ok-arm.ensures)
