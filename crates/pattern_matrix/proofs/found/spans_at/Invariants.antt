use Rattle.std.proofs.Common.{◌≡◌, Some, map, slice_get, take}
use Rattle.pattern_matrix.specs.Parts.{plain_spans}
use Rattle.pattern_matrix.proofs.found.spans_at.Given as goal

abbrev pub invariant-loop-k : goal.invariant-loop-k
invariant-loop-k l = map Some (plain_spans l.all.items) ≡ map (slice_get (plain_spans l.spans)) (take l.k-index l.numbers)
