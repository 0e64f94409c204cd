use Rattle.std.proofs.Common.{◌≡◌, ◌∙◌, ap, sym, rules}
use Rattle.match_model.specs.Witness.{PointOf}
use Rattle.witnesses.specs.Views.{plain_witness}
use Rattle.witnesses.specs.Points.{put_behind}
use Rattle.witnesses.specs.declared.witness.Witness.TheViews as w
use Rattle.witnesses.specs.declared.witness.Witness.TheFolds.{the_lemmas}
use Rattle.witnesses.proofs.Points.{points_shift}
use Rattle.witnesses.proofs.witness.put_behind.Goals as goal

pub loop-here-preserved : goal.loop-here-preserved
loop-here-preserved c =
    let next = plain_witness c.deref-here.result.now in
    let is : plain_witness c.loop-here.here.now ≡ PointOf next = search (rules, the_lemmas) in
    let new : plain_witness (w.Point c.in_ok-new.field-0) ≡ PointOf (plain_witness c.loop-here.all) = search (rules, the_lemmas) in
    ap (put_behind next) new ∙ sym (points_shift next (plain_witness c.loop-here.all)) ∙ sym (ap (λ x. put_behind x (plain_witness c.loop-here.all)) is)
    ∙ c.loop-here.invariant
