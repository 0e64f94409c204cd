use Rattle.std.proofs.Common.{map, [], subst}
use Rattle.pattern_arena.specs.Trees.{plain_match}
use Rattle.pattern_lints.specs.declared.ends.Side.TheVariants.{Low, High}
use Rattle.pattern_lints.specs.Finding.{range_view}
use Rattle.pattern_lints.specs.Pairing.{Adds, IsPairFrom}
use Rattle.pattern_lints.specs.Views.{plain_overlaps}
use Rattle.pattern_lints.proofs.Facing.{pairs-both}
use Rattle.pattern_lints.proofs.pairs.pairs_across.Goals as goal

pub returns : goal.returns
returns g c =
    let IsValue = g.C.PatCx.is_value c.args.cx.now in
    let m = plain_match c.args.m.now in
    let fs = map range_view c.args.found.now in
    let highs = c.args.highs.now in
    let lows = c.args.lows.now in
    let first = plain_overlaps c.add_from.new.overlaps.items in
    let all = plain_overlaps c.add_from-2.new.overlaps.items in
    let apart = c.requires.apart in
    pairs-both IsValue m fs highs lows c.requires.highs c.requires.lows apart.0 apart.1 apart.2 [] first all
    (subst (λ xs. Adds (IsPairFrom IsValue m fs High highs lows) (plain_overlaps xs) first) c.new-overlaps.ensures.items c.in_ok-add_from.ensures)
    c.in_ok-add_from-2.ensures
