use Rattle.std.proofs.Common.{◌≡◌, take}
use Rattle.pattern_matrix.specs.Parts.{plain_spans}
use Rattle.pattern_matrix.specs.Halving.{meeting}
use Rattle.pattern_matrix.proofs.halving.meeting.Given as goal

abbrev pub invariant-loop-k : goal.invariant-loop-k
invariant-loop-k l = l.met.items ≡ meeting (plain_spans l.spans) l.first l.end (take l.k-index l.numbers)
