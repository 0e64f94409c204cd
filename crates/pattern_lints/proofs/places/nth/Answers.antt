use Rattle.std.proofs.Common.{sym, arith}
use Rattle.std.proofs.lemmas.Option.{slice_get_past}
use Rattle.match_model.specs.ArenaPatterns.{subs_of}
use Rattle.pattern_arena.specs.Trees.{tree}
use Rattle.pattern_lints.proofs.Sizes.{placed_count}
use Rattle.pattern_lints.proofs.places.nth.Goals as goal

pub returns-else-i-p : goal.returns-else-i-p
returns-else-i-p g c =
    let e = placed_count c.args.p.now in
    sym (slice_get_past (subs_of (tree c.args.p.now)) c.args.i (omega (arith, e, c.if-i-p.false)))
