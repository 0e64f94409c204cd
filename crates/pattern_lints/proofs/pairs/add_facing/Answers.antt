use Rattle.std.proofs.Common.{rules, get_or, map}
use Rattle.pattern_arena.specs.Trees.{plain_arm, plain_match}
use Rattle.pattern_lints.specs.Finding.{range_view}
use Rattle.pattern_lints.specs.Views.{plain_overlaps}
use Rattle.pattern_lints.proofs.EndList.{got-at, below-mapped}
use Rattle.pattern_lints.proofs.Tries.{in-at}
use Rattle.pattern_lints.proofs.Whole.{in-arm}
use Rattle.pattern_lints.proofs.PairList.{IsPairAt, ends-meet, pairs-run, pair-at, within-more}
use Rattle.pattern_lints.proofs.pairs.add_facing.Goals as goal

pub range_at-one-requires : goal.range_at-one-requires
range_at-one-requires g c = below-mapped range_view c.args.found.now c.args.end.now.index c.requires.end.range c.requires.end.there

pub range_at-other-requires : goal.range_at-other-requires
range_at-other-requires g c =
    let others = c.args.others.now in
    let i = c.loop-i.i in
    let at = got-at others i c.index-others-i.result (search rules) in
    let end = c.requires.others.each (get_or others i c.index-others-i.result) (in-at others i (get_or others i c.index-others-i.result) at) in
    below-mapped range_view c.args.found.now (get_or others i c.index-others-i.result).index end.range end.there

pub add_pair-requires-clause-one : goal.add_pair-requires-clause-one
add_pair-requires-clause-one g c =
    let fs = map range_view c.args.found.now in
    let one = range_view c.range_at-one.result.now in
    in-arm (plain_match c.args.m.now).arms fs one c.requires.found (in-at fs _ one c.range_at-one.ensures)

pub add_pair-requires-clause-other : goal.add_pair-requires-clause-other
add_pair-requires-clause-other g c =
    let fs = map range_view c.args.found.now in
    let other = range_view c.range_at-other.result.now in
    in-arm (plain_match c.args.m.now).arms fs other c.requires.found (in-at fs _ other c.range_at-other.ensures)

pub add_pair-requires-clause-one_arm : goal.add_pair-requires-clause-one_arm
add_pair-requires-clause-one_arm g c =
    let fs = map range_view c.args.found.now in
    let one = range_view c.range_at-one.result.now in
    let h = in-arm (plain_match c.args.m.now).arms fs one c.requires.found (in-at fs _ one c.range_at-one.ensures) in
    below-mapped plain_arm c.args.m.now.arms.now one.arm h.arm h.there

pub add_pair-requires-clause-other_arm : goal.add_pair-requires-clause-other_arm
add_pair-requires-clause-other_arm g c =
    let fs = map range_view c.args.found.now in
    let other = range_view c.range_at-other.result.now in
    let h = in-arm (plain_match c.args.m.now).arms fs other c.requires.found (in-at fs _ other c.range_at-other.ensures) in
    below-mapped plain_arm c.args.m.now.arms.now other.arm h.arm h.there

pub add_pair-requires-clause-touch : goal.add_pair-requires-clause-touch
add_pair-requires-clause-touch g c =
    let fs = map range_view c.args.found.now in
    let others = c.args.others.now in
    let i = c.loop-i.i in
    let d = get_or others i c.index-others-i.result in
    let at = got-at others i c.index-others-i.result (search rules) in
    ends-meet c.args.side fs c.args.end.now d (range_view c.range_at-one.result.now) (range_view c.range_at-other.result.now) c.requires.end (c.requires.others.each d (in-at others i d at))
    (c.run_across-first.ensures.inside i d (search rules) (search rules) at) c.range_at-one.ensures c.range_at-other.ensures

pub loop-i-preserved : goal.loop-i-preserved
loop-i-preserved g c =
    let IsValue = g.C.PatCx.is_value c.args.cx.now in
    let m = plain_match c.args.m.now in
    let fs = map range_view c.args.found.now in
    let others = c.args.others.now in
    let e = c.args.end.now in
    let i = c.loop-i.i in
    let d = get_or others i c.index-others-i.result in
    let before = plain_overlaps c.loop-i.overlaps.items in
    let after = plain_overlaps c.add_pair.new.overlaps.items in
    let at = got-at others i c.index-others-i.result (search rules) in
    within-more (IsPairAt IsValue m fs c.args.side others e) c.run_across-first.result.0 i (plain_overlaps c.args.overlaps.now.items) before after (search rules) c.loop-i.invariant
    (pair-at IsValue m fs c.args.side others e i d (range_view c.range_at-one.result.now) (range_view c.range_at-other.result.now) before after at
    (c.run_across-first.ensures.inside i d (search rules) (search rules) at) c.range_at-one.ensures c.range_at-other.ensures c.in_ok-add_pair.ensures)

pub returns : goal.returns
returns g c =
    pairs-run (g.C.PatCx.is_value c.args.cx.now) (plain_match c.args.m.now) (map range_view c.args.found.now) c.args.side c.args.others.now c.args.end.now
    c.run_across-first.result.0 c.run_across-first.result.1 c.loop-i.i (plain_overlaps c.args.overlaps.now.items) (plain_overlaps c.loop-i.overlaps.items) c.run_across-first.ensures (search rules)
    c.loop-i.invariant
