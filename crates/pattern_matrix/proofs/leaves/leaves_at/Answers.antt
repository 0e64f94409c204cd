use Rattle.std.proofs.Common.{◌+◌, ◌<◌, ◌≤◌, ◌∙◌, ap, sym, subst, length, arith}
use Rattle.std.proofs.lemmas.List.{length-map}
use Rattle.std.specs.List.{All}
use Rattle.pattern_matrix.specs.Sparse.{leaf_views}
use Rattle.pattern_matrix.specs.Views.{plain_row, plain_rows, plain_leaf}
use Rattle.pattern_matrix.proofs.Apart.{apart_views, all_within, All-unmap}
use Rattle.pattern_matrix.proofs.leaves.leaves_at.Goals as goal

pub returns-clause-rows : goal.returns-clause-rows
returns-clause-rows g c = λ place others. ap (leaf_views others (plain_rows c.args.rows.now)) c.in_ok-leaves.ensures ∙ apart_views place c.args.column others (plain_rows c.args.rows.now)

pub returns-clause-within : goal.returns-clause-within
returns-clause-within g c =
    let rows = c.args.rows.now in
    let few : 0 + length (plain_rows rows) ≤ length rows = omega (arith, length-map rows plain_row) in
    All-unmap (λ l. l.row < length rows) plain_leaf c.in_ok-leaves.leaves.items
    (subst (All (λ l. l.row < length rows)) (sym c.in_ok-leaves.ensures) (all_within c.args.column 0 (length rows) (plain_rows rows) few))
