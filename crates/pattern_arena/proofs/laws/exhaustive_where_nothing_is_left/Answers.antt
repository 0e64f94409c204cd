use Rattle.match_model.proofs.Empties.{empty_exactly}
use Rattle.match_model.specs.ArenaWays.{match_arms, InMatchDomain}
use Rattle.pattern_arena.proofs.laws.exhaustive_where_nothing_is_left.Goals as goal

pub returns : goal.returns
returns g c = λ m. empty_exactly (InMatchDomain (g.C.PatCx.is_value c.args.cx.now) m) (match_arms m)
