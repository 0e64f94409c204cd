use Rattle.std.proofs.Common.{◌+◌, ◌∷◌, [], ◌∙◌, ◌++◌, ap, sym, map, drop, append_assoc}
use Rattle.match_model.specs.Matrices.{first_rows}
use Rattle.pattern_arena.specs.Trees.{plain_arm}
use Rattle.keyed_matrix.specs.First.{first_row}
use Rattle.keyed_matrix.specs.Views.{plain_rows}
use Rattle.keyed_matrix.proofs.Beginning.{first-drop}
use Rattle.keyed_matrix.proofs.first.rows_of_arms.Goals as goal

pub loop-j-preserved : goal.loop-j-preserved
loop-j-preserved g c =
    let j = c.loop-j.j in
    let arms = c.args.arms.now in
    let a = c.index-arms-j.result in
    let rest = first_rows (j + 1) (map plain_arm (drop (j + 1) arms)) in
    let old = plain_rows c.loop-j.rows.items in
    ap (λ ys. ys ++ rest) c.in_ok-add_arm.ensures
    ∙ append_assoc old (first_row j (plain_arm a) ∷ []) rest
    ∙ ap (λ ys. old ++ ys) (sym (first-drop plain_arm arms j a c.loop-j-test.true c.index-arms-j.is))
    ∙ c.loop-j.invariant
