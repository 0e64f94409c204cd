use Rattle.std.proofs.Common.{arith}
use Rattle.pattern_arena.specs.Trees.{tree}
use Rattle.pattern_lints.proofs.HullLaws.{widens-same, widens-then, subs-none, subs-more, subs-all, all-widened, known-whole}
use Rattle.pattern_lints.proofs.PlacedMeets.{placed_sub}
use Rattle.pattern_lints.proofs.Sizes.{sub_smaller}
use Rattle.pattern_lints.proofs.hulls.+noting.Goals as goal

pub note_parts-loop-q-init : goal.note_parts-loop-q-init
note_parts-loop-q-init g t c = (widens-same c.args.hulls.now, subs-none c.args.hulls.now c.args.p.now)

pub note_parts-loop-q-preserved : goal.note_parts-loop-q-preserved
note_parts-loop-q-preserved g t c =
    let p = c.args.p.now in
    let q = c.q-item.result in
    let before = c.loop-q.hulls in
    let after = c.note_in.new.hulls in
    let done = c.in_ok-note_in.ensures in (
      widens-then c.args.hulls.now before after c.loop-q.invariant.0 done.widens,
      subs-more before after p q c.loop-q.q-index c.loop-q-test.true c.q-item.is done.widens c.loop-q.invariant.1 done.known,
    )

pub note_parts-note_own-requires : goal.note_parts-note_own-requires
note_parts-note_own-requires g t c = subs-all c.loop-q.hulls c.args.p.now c.loop-q.q-index c.loop-q-test.false c.loop-q.invariant.1

pub note_parts-returns-clause-widens : goal.note_parts-returns-clause-widens
note_parts-returns-clause-widens g t c =
    widens-then c.args.hulls.now c.loop-q.hulls c.note_own.new.hulls c.loop-q.invariant.0 c.in_ok-note_own.ensures.widens

pub note_parts-returns-clause-known : goal.note_parts-returns-clause-known
note_parts-returns-clause-known g t c =
    let p = c.args.p.now in
    let before = c.loop-q.hulls in
    let after = c.note_own.new.hulls in
    let done = c.in_ok-note_own.ensures in
    known-whole after p done.known
    (λ i q there. all-widened before after (tree q) done.widens (subs-all before p c.loop-q.q-index c.loop-q-test.false c.loop-q.invariant.1 i q there))

pub note_parts-note_in-requires : goal.note_parts-note_in-requires
note_parts-note_in-requires g t c κs within =
    let p = c.args.p.now in
    let there = placed_sub p c.q-item.result c.loop-q.q-index c.loop-q-test.true c.q-item.is in
    let less = sub_smaller (tree p) c.loop-q.q-index (tree c.q-item.result) there in
    (omega (arith, c.decreases, less), within)

pub note_in-note_parts-requires : goal.note_in-note_parts-requires
note_in-note_parts-requires g t c κs within =
    let less = c.behind_only_parts-here.ensures.size in
    (omega (arith, c.decreases, less), within)

pub note_in-returns-clause-known : goal.note_in-returns-clause-known
note_in-returns-clause-known g t c = c.behind_only_parts-here.ensures.known c.note_parts.new.hulls c.in_ok-note_parts.ensures.known
