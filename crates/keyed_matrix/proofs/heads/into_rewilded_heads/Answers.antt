use Rattle.std.proofs.Common.{◌≡◌, ◌<◌, ◌+◌, ◌∙◌, get_or, take, length, sym, subst}
use Rattle.keyed_matrix.specs.Views.{plain_run, plain_heads}
use Rattle.keyed_matrix.specs.declared.rows.HeadRun.TheVariants.{Wilds}
use Rattle.keyed_matrix.proofs.HeadRuns.{rewilded-there}
use Rattle.keyed_matrix.proofs.heads.into_rewilded_heads.Goals as goal

pub returns-in-Some : goal.returns-in-Some
returns-in-Some g c =
    let xs = c.args.heads.items in
    let k = c.run_of-k.result.0 in
    let left = c.run_of-k.result.1 in
    let x = c.index.result.now in
    let within : k < length xs = subst (λ ys. k < length ys) c.deref.ensures.value c.run_of-k.ensures.within in
    let before : c.args.i ≡ length (plain_heads (take k xs)) + left =
    subst (λ ys. c.args.i ≡ length (plain_heads (take k ys)) + left) c.deref.ensures.value c.run_of-k.ensures.before in
    let inside : left < length (plain_run x) = subst (λ y. left < length (plain_run y)) (sym c.index.ensures)
    (subst (λ ys. left < length (plain_run (get_or ys k x))) c.deref.ensures.value (c.run_of-k.ensures.inside x)) in
    c.in_ok-put_wilds-in-Some.ensures
    ∙ rewilded-there xs k left c.args.i x within c.index.ensures before inside (Wilds c.in-Some.total) c.args.count
    (c.in-Some.ensures left inside)
