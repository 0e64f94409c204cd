use Rattle.std.proofs.Common.{◌++◌, ◌∙◌, ap, arith}
use Rattle.keyed_matrix.specs.Views.{plain_heads}
use Rattle.keyed_matrix.proofs.HeadRuns.{rest-of, heads-append, none-added, joined}
use Rattle.keyed_matrix.proofs.heads.add_rest.Goals as goal

pub returns-then-count-eq0 : goal.returns-then-count-eq0
returns-then-count-eq0 g c =
    none-added c.args.heads.now (plain_heads c.args.all.now.items) c.if-count-eq0.true

pub returns : goal.returns
returns g c =
    let xs = c.args.heads.now in
    let old = plain_heads c.args.all.now.items in
    ap plain_heads c.in_ok-extend_from_slice.ensures.items
    ∙ heads-append c.add_run.new.all.items _
    ∙ (λ j. c.in_ok-add_run.ensures j ++ plain_heads (rest-of 0 xs j))
    ∙ joined old xs c.index-heads-0.result (omega (arith, c.if-count-eq0.false)) c.index-heads-0.is
