use Rattle.std.proofs.Common.{◌<◌, ◌∙◌, length, get_or, slice_get, ap, sym, subst}
use Rattle.keyed_matrix.specs.Views.{plain_run, plain_heads}
use Rattle.keyed_matrix.proofs.HeadRuns.{got-there}
use Rattle.keyed_matrix.proofs.heads.head_at.Goals as goal

pub returns : goal.returns
returns g c =
    let xs = c.deref.result.now in
    let k = c.run_of-k.result.0 in
    let x = c.index.result.now in
    let is = c.index.ensures ∙ ap (λ ys. get_or ys k x) (sym c.deref.ensures.value) in
    ap (λ ys. slice_get (plain_heads ys) c.args.i) (sym c.deref.ensures.value)
    ∙ got-there xs k c.run_of-k.result.1 c.args.i x c.run_of-k.ensures.within is c.run_of-k.ensures.before
    (subst (λ y. c.run_of-k.result.1 < length (plain_run y)) (sym is) (c.run_of-k.ensures.inside x))
    ∙ c.head_in.ensures
