use Rattle.std.proofs.Common.{get_or, length, arith}
use Rattle.usefulness.specs.States.{plain_asked}
use Rattle.usefulness.specs.Words.{row_words}
use Rattle.usefulness.proofs.Noting.{next_below, words_step, words_all}
use Rattle.usefulness.proofs.telling.add_rows.Goals as goal

pub add_row-requires : goal.add_row-requires
add_row-requires g c = next_below (length c.args.places.now) c.args.rows.now c.loop-asked.asked-index c.asked-item.result c.requires c.loop-asked-test.true c.asked-item.is

pub loop-asked-preserved : goal.loop-asked-preserved
loop-asked-preserved g c =
    let loop = c.loop-asked in
    words_step plain_asked (row_words (λ n. get_or c.args.places.now n 0)) c.args.rows.now loop.asked-index c.asked-item.result c.args.words.now.items loop.words.items c.add_row.new.words.items
    c.loop-asked-test.true c.asked-item.is loop.invariant c.in_ok-add_row.ensures

pub returns : goal.returns
returns g c =
    let loop = c.loop-asked in
    let over = c.loop-asked-test.false in
    words_all plain_asked (row_words (λ n. get_or c.args.places.now n 0)) c.args.rows.now loop.asked-index c.args.words.now.items loop.words.items (omega (arith, over)) loop.invariant
