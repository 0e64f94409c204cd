use Rattle.std.proofs.Common.{rules, sym, ap, ◌∙◌, map, Some, arith}
use Rattle.pattern_arena.specs.Trees.{plain_match}
use Rattle.pattern_lints.specs.Finding.{range_view}
use Rattle.pattern_lints.specs.Views.{plain_overlaps}
use Rattle.pattern_lints.proofs.EndList.{got-at}
use Rattle.pattern_lints.proofs.Tries.{in-at}
use Rattle.pattern_lints.proofs.PairList.{IsPairOfEnd, within-more, pairs-of, pairs-all}
use Rattle.pattern_lints.proofs.pairs.add_from.Goals as goal

pub add_facing-requires-clause-end : goal.add_facing-requires-clause-end
add_facing-requires-clause-end g c =
    let ends = c.args.ends.now in
    let i = c.loop-end.end-index in
    let at = got-at ends i c.end-item.result c.loop-end-test.true ∙ ap Some (sym c.end-item.is) in
    c.requires.ends.each c.end-item.result (in-at ends i c.end-item.result at)

pub loop-end-preserved : goal.loop-end-preserved
loop-end-preserved g c =
    let IsValue = g.C.PatCx.is_value c.args.cx.now in
    let m = plain_match c.args.m.now in
    let fs = map range_view c.args.found.now in
    let ends = c.args.ends.now in
    let i = c.loop-end.end-index in
    let at = got-at ends i c.end-item.result c.loop-end-test.true ∙ ap Some (sym c.end-item.is) in
    let before = plain_overlaps c.loop-end.overlaps.items in
    let after = plain_overlaps c.add_facing.new.overlaps.items in
    within-more (IsPairOfEnd IsValue m fs c.args.side ends c.args.others.now) 0 i (plain_overlaps c.args.overlaps.now.items) before after (omega arith) c.loop-end.invariant
    (pairs-of IsValue m fs c.args.side ends c.args.others.now i c.end-item.result before after at c.in_ok-add_facing.ensures)

pub returns : goal.returns
returns g c =
    pairs-all (g.C.PatCx.is_value c.args.cx.now) (plain_match c.args.m.now) (map range_view c.args.found.now) c.args.side c.args.ends.now c.args.others.now c.loop-end.end-index
    (plain_overlaps c.args.overlaps.now.items) (plain_overlaps c.loop-end.overlaps.items) (search rules) c.loop-end.invariant
