use Rattle.std.proofs.Common.{◌≡◌, subst}
use Rattle.match_model.specs.Constructors.{OrCtor}
use Rattle.pat_context.specs.Parts.{Tells}
use Rattle.pat_context.specs.Views.{plain_ctor}
use Rattle.pattern_lints.proofs.Noting.{opens-or, opens-step}
use Rattle.pattern_lints.proofs.spots.place_below.Goals as goal

pub returns-then-is_or : goal.returns-then-is_or
returns-then-is_or c =
    opens-or c.args.finding.now c.args.above (plain_ctor c.args.ctor.now) c.args.i (subst (λ b. Tells b (plain_ctor c.args.ctor.now ≡ OrCtor)) c.if-is_or.true c.is_or.ensures)

pub returns : goal.returns
returns c =
    opens-step c.args.finding.now c.number_of.new.finding c.args.above (plain_ctor c.args.ctor.now) c.args.i c.in_ok-number.number c.step_to-variant.result.0 c.step_to-variant.result.1
    (subst (λ b. Tells b (plain_ctor c.args.ctor.now ≡ OrCtor)) c.if-is_or.false c.is_or.ensures) c.step_to-variant.ensures c.in_ok-number.ensures
