use Rattle.std.proofs.Common.{◌≡◌, ◌∙◌, ap, sym, rules}
use Rattle.match_model.specs.Witness.{PointOf}
use Rattle.witnesses.specs.Views.{plain_witness}
use Rattle.witnesses.specs.Points.{behind_points, put_behind}
use Rattle.witnesses.specs.declared.witness.Witness.TheFolds.{the_lemmas}
use Rattle.witnesses.proofs.Points.{points_whole}
use Rattle.witnesses.proofs.witness.+copying.Goals as goal

pub copy_points-returns : goal.copy_points-returns
copy_points-returns t c =
    let w = plain_witness c.args.w.now in
    let is : w ≡ PointOf (plain_witness c.deref.result.now) = search (rules, the_lemmas) in
    c.in_ok-all.ensures ∙ ap (put_behind w) (c.in_ok-last.ensures ∙ c.behind_points.ensures.behind ∙ sym (ap behind_points is)) ∙ points_whole w
