use Rattle.match_model.proofs.OneOverlaps.{one_overlap_list}
use Rattle.match_model.specs.ArenaWays.{match_arms, InMatchDomain}
use Rattle.pattern_arena.proofs.laws.overlap_lists_are_one.Goals as goal

pub returns : goal.returns
returns g c = λ m. one_overlap_list (InMatchDomain (g.C.PatCx.is_value c.args.cx.now) m) (match_arms m)
