use Rattle.std.proofs.Common.{◌≡◌, take}
use Rattle.match_model.specs.Steps.{specialise_head}
use Rattle.pat_context.specs.Views.{plain_ctor, plain_place}
use Rattle.keyed_matrix.specs.Views.{plain_rows}
use Rattle.decision_tree.specs.Cuts.{listed_at}
use Rattle.decision_tree.proofs.having.listed_rows.Given as goal

abbrev pub invariant-loop-k : goal.invariant-loop-k
invariant-loop-k g l =
    plain_rows l.all.items ≡ listed_at (specialise_head (plain_ctor l.piece) l.count) (plain_place l.place) l.i
    (plain_rows l.rows) (take l.k-index l.numbers)
