use Rattle.std.proofs.Common.{List, sym, subst}
use Rattle.match_model.specs.Matrices.{MRow}
use Rattle.pattern_arena.specs.Trees.{plain_match}
use Rattle.keyed_matrix.specs.Steps.{AreLonger}
use Rattle.keyed_matrix.proofs.Beginning.{first-longer}
use Rattle.keyed_matrix.proofs.first.first_rows.Goals as goal

pub returns-clause-longer : goal.returns-clause-longer
returns-clause-longer g c =
    let P : List (MRow g.row.T.Denot) → Type 0 = λ rows. AreLonger 0 rows in
    subst P (sym c.in_ok-rows.ensures) (λ k d l. first-longer (plain_match c.args.m.now).arms 0 k d l)
