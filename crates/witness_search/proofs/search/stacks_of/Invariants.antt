use Rattle.std.proofs.Common.{reverse}
use Rattle.witness_search.specs.Asks.{AreAsks}
use Rattle.witness_search.specs.Turns.{IsTurn}
use Rattle.witness_search.proofs.search.stacks_of.Given as goal

abbrev pub ghost-step : goal.ghost-step
ghost-step g a = g.root

abbrev pub invariant-loop-step : goal.invariant-loop-step
invariant-loop-step g l =
    IsTurn (g.C.PatCx.is_type l.cx) (g.C.PatCx.context l.cx) (g.C.PatCx.is_value l.cx) g.root (reverse l.frames.items) l.opened.items l.turn
    × AreAsks (g.C.PatCx.is_type l.cx) (g.C.PatCx.is_value l.cx) (g.C.PatCx.context l.cx) g.root.arms l.asks
