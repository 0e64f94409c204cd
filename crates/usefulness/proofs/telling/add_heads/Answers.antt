use Rattle.std.proofs.Common.{get_or, length, arith}
use Rattle.pattern_matrix.specs.Views.{plain_head}
use Rattle.usefulness.specs.Words.{head_words}
use Rattle.usefulness.proofs.Noting.{column_below, words_step, words_all}
use Rattle.usefulness.proofs.telling.add_heads.Goals as goal

pub add_head-requires : goal.add_head-requires
add_head-requires g c = column_below (length c.args.places.now) c.args.heads.now c.loop-head.head-index c.head-item.result c.requires c.loop-head-test.true c.head-item.is

pub loop-head-preserved : goal.loop-head-preserved
loop-head-preserved g c =
    let loop = c.loop-head in
    words_step plain_head (head_words (λ n. get_or c.args.places.now n 0)) c.args.heads.now loop.head-index c.head-item.result c.args.words.now.items loop.words.items c.add_head.new.words.items
    c.loop-head-test.true c.head-item.is loop.invariant c.in_ok-add_head.ensures

pub returns : goal.returns
returns g c =
    let loop = c.loop-head in
    let over = c.loop-head-test.false in
    words_all plain_head (head_words (λ n. get_or c.args.places.now n 0)) c.args.heads.now loop.head-index c.args.words.now.items loop.words.items (omega (arith, over)) loop.invariant
