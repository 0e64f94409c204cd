use Rattle.std.proofs.Common.{map}
use Rattle.pattern_arena.specs.Trees.{plain_match}
use Rattle.pattern_lints.specs.Finding.{range_view}
use Rattle.pattern_lints.specs.Views.{plain_overlaps}
use Rattle.pattern_lints.specs.Pairing.{Adds}
use Rattle.pattern_lints.proofs.PairList.{Within, IsPairAt}
use Rattle.pattern_lints.proofs.pairs.add_facing.Given as goal

abbrev pub invariant-loop-i : goal.invariant-loop-i
invariant-loop-i g l =
    Adds (Within (IsPairAt (g.C.PatCx.is_value l.cx) (plain_match l.m) (map range_view l.found) l.fn.side l.others l.end) l.first l.i)
    (plain_overlaps l.fn.overlaps.items) (plain_overlaps l.overlaps.items)
