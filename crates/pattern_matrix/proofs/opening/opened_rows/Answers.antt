use Rattle.std.proofs.Common.{◌∙◌, ◌++◌, ap, sym, get_or, append_assoc, drop, ◌+◌}
use Rattle.pattern_matrix.specs.Sparse.{leaves_listed}
use Rattle.pattern_matrix.specs.Views.{plain_rows, plain_leaf, plain_leaves}
use Rattle.pattern_matrix.specs.Opening.{opened_leaf, opened_rows}
use Rattle.pattern_matrix.proofs.Getting.{got}
use Rattle.pattern_matrix.proofs.Opened.{opened_more}
use Rattle.pattern_matrix.proofs.opening.opened_rows.Goals as goal

pub add_opened-requires-clause-parts : goal.add_opened-requires-clause-parts
add_opened-requires-clause-parts g c =
    let i = c.loop-k.k-index in
    let k = get_or c.args.numbers.now i 0 in
    let here = got plain_leaf c.args.leaves.now k c.index-leaves-k.result (c.requires.numbers i 0 c.loop-k-test.true) c.index-leaves-k.is in
    c.requires.parts i 0 c.loop-k-test.true (plain_leaf c.index-leaves-k.result) here

pub loop-k-preserved : goal.loop-k-preserved
loop-k-preserved g c =
    let i = c.loop-k.k-index in
    let k = get_or c.args.numbers.now i 0 in
    let rows = plain_rows c.args.rows.now in
    let leaves = plain_leaves c.args.leaves.now in
    let l = plain_leaf c.index-leaves-k.result in
    let here = got plain_leaf c.args.leaves.now k c.index-leaves-k.result (c.requires.numbers i 0 c.loop-k-test.true) c.index-leaves-k.is in
    let rest = opened_rows c.args.column c.args.first c.args.count rows (leaves_listed leaves (drop (i + 1) c.args.numbers.now)) in
    let old = plain_rows c.loop-k.opened.items in
    ap (λ ys. ys ++ rest) c.in_ok-add_opened.ensures
    ∙ append_assoc old (opened_leaf c.args.column c.args.first c.args.count rows l) rest
    ∙ ap (λ ys. old ++ ys) (sym (opened_more c.args.column c.args.first c.args.count rows leaves c.args.numbers.now i l c.loop-k-test.true here))
    ∙ c.loop-k.invariant
