use Rattle.std.proofs.Common.{◌∙◌, sym, arith, get_or}
use Rattle.std.proofs.lemmas.Bool.{eq-eqb, ne_eqb}
use Rattle.explain_lines.proofs.Shown.{on_begun, on_at_end, on_at_room, on_at_feed, walked_on}
use Rattle.explain_lines.proofs.windows.shown_to.Goals as goal

pub loop-to-init : goal.loop-to-init
loop-to-init c = on_begun c.args.text.now c.args.at c.args.most c.requires

pub returns-then-byte-eq10 : goal.returns-then-byte-eq10
returns-then-byte-eq10 c =
    on_at_feed c.args.text.now c.args.at c.args.most c.loop-to.to c.loop-to.left (omega arith) (eq-eqb (get_or c.args.text.now c.loop-to.to 0) 10 c.if-byte-eq10.true)
    c.loop-to.invariant

pub returns-then-is_full : goal.returns-then-is_full
returns-then-is_full c =
    on_at_room c.args.text.now c.args.at c.args.most c.loop-to.to c.loop-to.left (omega arith) (sym c.is_full.ensures ∙ c.if-is_full.true)
    (ne_eqb (get_or c.args.text.now c.loop-to.to 0) 10 c.if-byte-eq10.false) c.loop-to.invariant

pub loop-to-preserved : goal.loop-to-preserved
loop-to-preserved c =
    walked_on c.args.text.now c.args.at c.args.most c.loop-to.to c.loop-to.left c.room_after-left.result (omega arith) (sym c.is_full.ensures ∙ c.if-is_full.false)
    (ne_eqb (get_or c.args.text.now c.loop-to.to 0) 10 c.if-byte-eq10.false) c.room_after-left.ensures c.loop-to.invariant

pub returns : goal.returns
returns c = on_at_end c.args.text.now c.args.at c.args.most c.loop-to.to c.loop-to.left (omega arith) c.loop-to.invariant
