use Rattle.std.proofs.Common.{◌≡◌, ◌<◌, ◌∙◌, length, subst, sym, arith}
use Rattle.keyed_matrix.proofs.RowSteps.{longer-row}
use Rattle.decision_tree.specs.Matrices.{matrix_rows}
use Rattle.decision_tree.proofs.IdleCases.{idle-read, idle-others}
use Rattle.decision_tree.proofs.idle.is_idle_alone.Goals as goal

pub takes_idly-requires : goal.takes_idly-requires
takes_idly-requires g c =
    let rows = c.args.m.now.rows.items in
    let numbers = c.args.numbers.now in
    let k = c.index.result.now in
    let one : length numbers.items ≡ 1 = omega (arith, c.len.ensures, c.if-len-ne1.false, numbers.ok.0) in
    let below : k < length rows = subst (λ q. q < length rows) (sym c.index.ensures) (c.requires.within 0 k (omega (arith, one))) in
    longer-row c.args.i rows k c.index-2.result.now c.requires.longer below c.index-2.ensures

pub returns-then-len-ne1 : goal.returns-then-len-ne1
returns-then-len-ne1 g c =
    let numbers = c.args.numbers.now in
    idle-others c.args.i (matrix_rows c.args.m.now) numbers.items
    (λ (one : length numbers.items ≡ 1). c.if-len-ne1.true (c.len.ensures ∙ omega (arith, numbers.ok.0, one)))

pub returns : goal.returns
returns g c =
    let rows = c.args.m.now.rows.items in
    let numbers = c.args.numbers.now in
    let k = c.index.result.now in
    let one : length numbers.items ≡ 1 = omega (arith, c.len.ensures, c.if-len-ne1.false, numbers.ok.0) in
    let below : k < length rows = subst (λ q. q < length rows) (sym c.index.ensures) (c.requires.within 0 k (omega (arith, one))) in
    c.takes_idly.ensures ∙ idle-read c.args.i rows numbers.items k c.index-2.result.now one c.index.ensures below c.index-2.ensures
