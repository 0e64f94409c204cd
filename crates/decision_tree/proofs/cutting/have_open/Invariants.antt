use Rattle.std.proofs.Common.{take}
use Rattle.std.specs.List.{All}
use Rattle.keyed_matrix.specs.Views.{plain_rows}
use Rattle.pattern_matrix.specs.Parts.{plain_spans}
use Rattle.decision_tree.specs.Cutting.{TakesMet}
use Rattle.decision_tree.proofs.cutting.have_open.Given as goal

abbrev pub invariant-loop-n : goal.invariant-loop-n
invariant-loop-n g l =
    All (TakesMet l.i (plain_rows l.rows) (plain_spans l.spans) l.part.first l.part.end) (take l.n l.part.leaves.items)
