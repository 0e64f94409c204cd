use Rattle.std.proofs.Common.{sym, ap, ◌∙◌, Some}
use Rattle.range_split.specs.Ranges.{plain_range}
use Rattle.pattern_arena.specs.Trees.{placed_subs}
use Rattle.pattern_lints.proofs.EndList.{got-at}
use Rattle.pattern_lints.proofs.HullLaws.{holds-none, holds-more, holds-all}
use Rattle.pattern_lints.proofs.hulls.alternative_numbers.Goals as goal

pub loop-q-init : goal.loop-q-init
loop-q-init g c = holds-none c.args.p.now (plain_range c.numbers_of-numbers.result)

pub loop-q-preserved : goal.loop-q-preserved
loop-q-preserved g c =
    let p = c.args.p.now in
    let i = c.loop-q.q-index in
    let q = c.q-item.result in
    let there = got-at (placed_subs p) i q c.loop-q-test.true ∙ ap Some (sym c.q-item.is) in
    holds-more p q i (plain_range c.loop-q.numbers) (plain_range c.numbers_of-own.result) (plain_range c.hull-numbers.result) c.loop-q-test.true c.q-item.is c.loop-q.invariant
    (c.numbers_of-own.ensures (c.requires.known i q there)) c.hull-numbers.ensures.first c.hull-numbers.ensures.second

pub returns : goal.returns
returns g c = holds-all c.args.p.now c.loop-q.q-index (plain_range c.loop-q.numbers) c.requires.or c.loop-q-test.false c.loop-q.invariant
