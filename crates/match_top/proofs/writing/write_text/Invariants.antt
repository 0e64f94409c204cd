use Rattle.std.proofs.Common.{◌≤◌, length}
use Rattle.match_top.proofs.Going.{Going}
use Rattle.match_top.proofs.writing.write_text.Given as goal

abbrev pub invariant-loop-rest : goal.invariant-loop-rest
invariant-loop-rest g l =
    Going (g.K.Sink.written l.initial.sink) (g.K.Sink.written l.sink) l.text l.rest
    × (g.K.Sink.faults l.initial.sink ≤ g.K.Sink.faults l.sink)

abbrev pub decreases-loop-rest : goal.decreases-loop-rest
decreases-loop-rest g l = length l.rest
