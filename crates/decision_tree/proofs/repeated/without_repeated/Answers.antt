use Rattle.std.proofs.Common.{[], ◌∷◌, subst, sym}
use Rattle.std.proofs.lemmas.List.{map-append}
use Rattle.keyed_matrix.specs.Views.{plain_row, plain_rows}
use Rattle.decision_tree.specs.Repeated.{AreLeftOf, none_left}
use Rattle.decision_tree.proofs.RowAmong.{all-stay}
use Rattle.decision_tree.proofs.repeated.without_repeated.Goals as goal

pub loop-row-preserved : goal.loop-row-preserved
loop-row-preserved g c =
    let loop = c.loop-row in
    subst (λ rows. AreLeftOf rows (plain_rows c.add_unless_repeated.new.left.items))
    (sym (map-append plain_row loop.yielded (c.in-Some.row ∷ [])))
    (c.in_ok-add_unless_repeated.ensures (plain_rows loop.yielded) loop.invariant)

pub loop-row-init : goal.loop-row-init
loop-row-init g c =
    subst (λ xs. AreLeftOf [] (plain_rows xs)) (sym c.in_ok-left.ensures.items) none_left

pub returns-then-not-have_pair : goal.returns-then-not-have_pair
returns-then-not-have_pair g c = all-stay [] [] (plain_rows c.args.rows.items) none_left
