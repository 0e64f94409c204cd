use Rattle.std.proofs.Common.{◌+◌, drop, ap, sym, ◌∙◌}
use Rattle.std.specs.List.{list_all}
use Rattle.match_model.specs.DecisionTrees.{all_wild}
use Rattle.match_model.specs.Rows.{is_wild}
use Rattle.keyed_matrix.specs.Views.{plain_heads, plain_row}
use Rattle.decision_tree.proofs.RunTests.{wild-on, wild-not, wild-end}
use Rattle.decision_tree.proofs.leaves.is_leaf.Goals as goal

pub returns-then-not-is_wild_run : goal.returns-then-not-is_wild_run
returns-then-not-is_wild_run g c =
    let loop = c.loop-one in
    let xs = c.deref-one-items.result.now in
    let begun = ap (λ ys. list_all is_wild (plain_heads (drop loop.one-index ys))) c.deref-one-items.ensures.value in
    wild-not xs loop.one-index c.one-item.result c.loop-one-test.true c.one-item.is
    (all_wild (plain_row c.args.row.now)) (begun ∙ loop.invariant)
    (sym c.is_wild_run.ensures ∙ c.if-not-is_wild_run.true)

pub loop-one-preserved : goal.loop-one-preserved
loop-one-preserved g c =
    let loop = c.loop-one in
    let xs = c.deref-one-items.result.now in
    let begun = ap (λ ys. list_all is_wild (plain_heads (drop loop.one-index ys))) c.deref-one-items.ensures.value in
    let next = ap (λ ys. list_all is_wild (plain_heads (drop (loop.one-index + 1) ys))) c.deref-one-items.ensures.value in
    sym next
    ∙ wild-on xs loop.one-index c.one-item.result c.loop-one-test.true c.one-item.is
    (all_wild (plain_row c.args.row.now)) (begun ∙ loop.invariant)
    (sym c.is_wild_run.ensures ∙ c.if-not-is_wild_run.false)

pub returns : goal.returns
returns g c =
    let loop = c.loop-one in
    let xs = c.deref-one-items.result.now in
    let begun = ap (λ ys. list_all is_wild (plain_heads (drop loop.one-index ys))) c.deref-one-items.ensures.value in
    wild-end xs loop.one-index (all_wild (plain_row c.args.row.now)) c.loop-one-test.false (begun ∙ loop.invariant)
