use Rattle.std.proofs.Common.{rules}
use Rattle.match_top.proofs.DemoNumbers.{no_number, unread, number_read}
use Rattle.match_top.proofs.demo_words.demo_number.Goals as goal

pub returns-then-not-begins_above_zero : goal.returns-then-not-begins_above_zero
returns-then-not-begins_above_zero c = no_number c.args.word.now (search rules)

pub returns-in-Ok : goal.returns-in-Ok
returns-in-Ok c = number_read c.args.word.now c.parse.result c.in-Ok.n c.within.result (search rules) c.parse.ensures.value.0 c.in-Ok.is c.within.ensures

pub returns-in-Err : goal.returns-in-Err
returns-in-Err c = unread c.args.word.now c.parse.result c.in-Err.field-0 c.parse.ensures.value.0 c.in-Err.is
