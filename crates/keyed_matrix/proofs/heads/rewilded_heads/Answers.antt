use Rattle.std.proofs.Common.{◌<◌, ◌++◌, ◌∙◌, length, ap, sym, subst, arith}
use Rattle.match_model.specs.Rows.{wildcards}
use Rattle.match_model.specs.Steps.{replaced_at}
use Rattle.keyed_matrix.specs.Views.{plain_run, plain_heads}
use Rattle.keyed_matrix.specs.declared.rows.HeadRun.TheVariants.{Wilds}
use Rattle.keyed_matrix.proofs.HeadRuns.{rewilded-there}
use Rattle.keyed_matrix.proofs.heads.rewilded_heads.Goals as goal

pub recounted-requires : goal.recounted-requires
recounted-requires g c =
    let left = c.run_of-k.result.1 in
    let inside : left < length (plain_run c.index-heads-k.result) =
    subst (λ y. left < length (plain_run y)) (sym c.index-heads-k.is) (c.run_of-k.ensures.inside c.index-heads-k.result) in
    omega (arith, inside)

pub returns-in_ok-some-in-Some : goal.returns-in_ok-some-in-Some
returns-in_ok-some-in-Some g c =
    let k = c.run_of-k.result.0 in
    let left = c.run_of-k.result.1 in
    let x = c.index-heads-k.result in
    let inside : left < length (plain_run x) =
    subst (λ y. left < length (plain_run y)) (sym c.index-heads-k.is) (c.run_of-k.ensures.inside x) in
    c.in_ok-some-in-Some.ensures
    ∙ rewilded-there c.args.heads.now k left c.args.i x c.run_of-k.ensures.within c.index-heads-k.is c.run_of-k.ensures.before
    inside (Wilds c.in-Some.total) c.args.count (c.in-Some.ensures left inside)

pub returns-in_ok-others-in-None : goal.returns-in_ok-others-in-None
returns-in_ok-others-in-None g c =
    c.in_ok-others-in-None.ensures
    ∙ ap (λ hs. replaced_at c.args.i (plain_heads c.args.heads.now) hs)
    (ap plain_heads c.deref.ensures.value ∙ c.in_ok-add_wilds-in-None.ensures
    ∙ ap (λ ys. plain_heads ys ++ wildcards c.args.count) c.new-wilds.ensures.items)
