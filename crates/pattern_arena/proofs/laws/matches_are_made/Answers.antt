use Rattle.pattern_arena.proofs.Held.{arms_made}
use Rattle.pattern_arena.proofs.laws.matches_are_made.Goals as goal

pub returns : goal.returns
returns g c = arms_made c.args.m.now.arms.now
