use Rattle.std.proofs.Common.{map}
use Rattle.pattern_arena.specs.Trees.{plain_match}
use Rattle.pattern_lints.specs.Finding.{range_view}
use Rattle.pattern_lints.specs.Views.{plain_overlaps}
use Rattle.pattern_lints.specs.Pairing.{Adds}
use Rattle.pattern_lints.proofs.PairList.{Within, IsPairOfEnd}
use Rattle.pattern_lints.proofs.pairs.add_from.Given as goal

abbrev pub invariant-loop-end : goal.invariant-loop-end
invariant-loop-end g l =
    Adds (Within (IsPairOfEnd (g.C.PatCx.is_value l.cx) (plain_match l.m) (map range_view l.found) l.side l.ends l.others) 0 l.end-index)
    (plain_overlaps l.fn.overlaps.items) (plain_overlaps l.overlaps.items)
