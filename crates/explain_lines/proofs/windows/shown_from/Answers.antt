use Rattle.std.proofs.Common.{◌-◌, arith, get_or}
use Rattle.std.proofs.lemmas.Bool.{eq-eqb, ne_eqb}
use Rattle.explain_lines.proofs.Shown.{back_begun, back_at_room, back_at_feed, back_at_begin, walked_back}
use Rattle.explain_lines.proofs.windows.shown_from.Goals as goal

pub loop-from-init : goal.loop-from-init
loop-from-init c = back_begun c.args.text.now c.args.at c.args.most

pub returns-then-left-eq0 : goal.returns-then-left-eq0
returns-then-left-eq0 c =
    back_at_room c.args.text.now c.args.at c.args.most c.loop-from.from c.loop-from.left c.requires c.if-left-eq0.true c.loop-from.invariant

pub returns-then-byte-eq10 : goal.returns-then-byte-eq10
returns-then-byte-eq10 c =
    back_at_feed c.args.text.now c.args.at c.args.most c.loop-from.from c.loop-from.left (c.loop-from.from - 1) c.requires (omega arith)
    (eq-eqb (get_or c.args.text.now (c.loop-from.from - 1) 0) 10 c.if-byte-eq10.true) c.loop-from.invariant

pub loop-from-preserved : goal.loop-from-preserved
loop-from-preserved c =
    walked_back c.args.text.now c.args.at c.args.most c.loop-from.from c.loop-from.left (c.loop-from.from - 1) c.room_after-left.result c.requires (omega arith)
    (omega arith) (ne_eqb (get_or c.args.text.now (c.loop-from.from - 1) 0) 10 c.if-byte-eq10.false) c.room_after-left.ensures c.loop-from.invariant

pub returns : goal.returns
returns c =
    back_at_begin c.args.text.now c.args.at c.args.most c.loop-from.from c.loop-from.left c.requires (omega arith) c.loop-from.invariant
