use Rattle.std.proofs.Common.{subst, refl}
use Rattle.std.proofs.lemmas.List.{take_all}
use Rattle.std.proofs.lemmas.List.Elements.{All-more}
use Rattle.horn_clauses.specs.Marks.{IsHeld, HoldsThroughout}
use Rattle.horn_clauses.proofs.model.holds_throughout.Goals as goal

pub loop-atom-preserved : goal.loop-atom-preserved
loop-atom-preserved c =
    All-more (IsHeld c.args.marks.now) c.args.body.now c.loop-atom.atom-index 0 c.loop-atom-test.true c.loop-atom.invariant c.if-not-marks-atom.false

pub returns : goal.returns
returns c =
    let all : HoldsThroughout c.args.marks.now c.args.body.now =
    subst (HoldsThroughout c.args.marks.now) (take_all c.loop-atom.atom-index c.args.body.now c.loop-atom-test.false) c.loop-atom.invariant in
    (λ t. all, λ h. refl)
