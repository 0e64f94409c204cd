use Rattle.std.proofs.Common.{◌+◌, ◌∷◌, [], ◌∙◌, ◌++◌, ap, sym, map, drop, append_assoc}
use Rattle.pattern_arena.specs.Trees.{plain_arm}
use Rattle.pattern_matrix.specs.Views.{plain_rows}
use Rattle.pattern_matrix.specs.Starting.{starting_row, starting_rows}
use Rattle.pattern_matrix.proofs.Starting.{starting-drop}
use Rattle.pattern_matrix.proofs.first.rows_of_arms.Goals as goal

pub loop-i-preserved : goal.loop-i-preserved
loop-i-preserved g c =
    let i = c.loop-i.i in
    let arms = c.args.arms.now in
    let a = c.index-arms-i.result in
    let rest = starting_rows (i + 1) (map plain_arm (drop (i + 1) arms)) in
    let old = plain_rows c.loop-i.rows.items in
    ap (λ ys. ys ++ rest) c.in_ok-add_first.ensures
    ∙ append_assoc old (starting_row i (plain_arm a) ∷ []) rest
    ∙ ap (λ ys. old ++ ys) (sym (starting-drop plain_arm arms i a c.loop-i-test.true c.index-arms-i.is))
    ∙ c.loop-i.invariant
