use Rattle.std.proofs.Common.{◌∷◌, [], ◌++◌, ap, ◌∙◌, arith}
use Rattle.usefulness.specs.States.{plain_open}
use Rattle.usefulness.specs.Words.{bit}
use Rattle.usefulness.proofs.Writing.{singles_step, singles_all}
use Rattle.usefulness.proofs.telling.add_sure.Goals as goal

pub loop-column-preserved : goal.loop-column-preserved
loop-column-preserved g c =
    let loop = c.loop-column in
    singles_step plain_open (λ o. bit o.1.sure) c.args.columns.now loop.column-index c.column-item.result c.args.words.now.items loop.words.items c.put.new.words.items
    c.loop-column-test.true c.column-item.is loop.invariant (c.in_ok-put.ensures ∙ ap (λ b. loop.words.items ++ b ∷ []) c.sure_bit.ensures)

pub returns : goal.returns
returns g c =
    let loop = c.loop-column in
    let over = c.loop-column-test.false in
    singles_all plain_open (λ o. bit o.1.sure) c.args.columns.now loop.column-index c.args.words.now.items loop.words.items (omega (arith, over)) loop.invariant
