use Rattle.pattern_arena.specs.Trees.{plain_match}
use Rattle.usefulness.specs.Marking.{is_marked}
use Rattle.usefulness.proofs.Beginning.{none_reached}
use Rattle.usefulness.proofs.search.reach.Goals as goal

pub returns-else-some : goal.returns-else-some
returns-else-some g c =
    let cx = c.args.cx.now in
    none_reached (g.C.PatCx.is_type cx) (g.C.PatCx.is_value cx) (g.C.PatCx.context cx) (plain_match c.args.m.now) (is_marked c.in_ok-marks.marks) (c.has_value-some.ensures.none c.if-some.false) c.in_ok-marks.ensures.none
