use Rattle.std.proofs.Common.{arith}
use Rattle.list_members.proofs.MemberLemmas.{repeats_found, repeats_step, repeats_none}
use Rattle.list_members.proofs.members.repeats.Goals as goal

pub returns-then-not-branch : goal.returns-then-not-branch
returns-then-not-branch g c =
    repeats_found g.K.PartialEq.eq c.args.all.now c.loop-key.seen.keys c.loop-key.key-index c.key-item.result c.in_ok-insert.field-0 c.loop-key-test.true c.key-item.is
    c.loop-key.invariant.0 c.in_ok-insert.ensures.added c.if-not-branch.true

pub loop-key-preserved : goal.loop-key-preserved
loop-key-preserved g c =
    repeats_step g.K.PartialEq.eq c.args.all.now c.loop-key.seen.keys c.insert.new.self.keys c.loop-key.key-index c.key-item.result c.in_ok-insert.field-0 c.loop-key-test.true c.key-item.is
    c.loop-key.invariant.0 c.loop-key.invariant.1 c.in_ok-insert.ensures.added c.if-not-branch.false c.in_ok-insert.ensures.keys

pub returns : goal.returns
returns g c = repeats_none g.K.PartialEq.eq c.args.all.now c.loop-key.key-index (omega arith) c.loop-key.invariant.1
