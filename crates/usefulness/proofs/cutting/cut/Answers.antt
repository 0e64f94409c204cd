use Rattle.std.proofs.Common.{◌+◌, [], take, drop, sym, subst}
use Rattle.usefulness.specs.States.{is_noted}
use Rattle.usefulness.specs.Cutting.{IsCutSoFar}
use Rattle.usefulness.proofs.Cuts.{cut_begins, one_seen, all_seen}
use Rattle.usefulness.proofs.cutting.cut.Goals as goal

pub loop-k-init : goal.loop-k-init
loop-k-init g c =
    let p = c.args.part.now in
    subst (IsCutSoFar (is_noted c.args.reached.now) c.args.missing c.args.a.now c.args.spans.now p.first p.end []) (sym c.in_ok-kept.ensures.items)
    (cut_begins c.args.missing c.args.a.now c.args.spans.now (is_noted c.args.reached.now) p.first p.end)

pub returns-then-last : goal.returns-then-last
returns-then-last g c =
    let p = c.args.part.now in
    let i = c.loop-k.k-index in
    let ks = p.leaves.items in
    subst (λ seen. IsCutSoFar (is_noted c.args.reached.now) c.args.missing c.args.a.now c.args.spans.now p.first p.end seen c.cut_one.new.kept.items) (all_seen ks c.deref-k-items.result.now i c.deref-k-items.ensures.value c.loop-k-test.true)
    (c.in_ok-last.ensures.last c.if-last.true (take i ks) (drop (i + 1) ks) c.loop-k.invariant)

pub loop-k-preserved : goal.loop-k-preserved
loop-k-preserved g c =
    let p = c.args.part.now in
    let i = c.loop-k.k-index in
    let ks = p.leaves.items in
    subst (λ seen. IsCutSoFar (is_noted c.args.reached.now) c.args.missing c.args.a.now c.args.spans.now p.first p.end seen c.cut_one.new.kept.items) (one_seen ks c.deref-k-items.result.now i c.deref-k-items.ensures.value c.loop-k-test.true)
    (c.in_ok-last.ensures.more c.if-last.false (take i ks) c.loop-k.invariant)
