use Rattle.std.proofs.Common.{◌++◌, ◌+◌, take, drop, ap, ◌∙◌}
use Rattle.keyed_matrix.specs.Views.{plain_column, plain_columns}
use Rattle.keyed_matrix.proofs.HeadRuns.{rest-of}
use Rattle.keyed_matrix.proofs.Replaced.{replaced-parts, map-replaced}
use Rattle.keyed_matrix.proofs.columns.replaced_columns.Goals as goal

pub returns : goal.returns
returns g c =
    let columns = c.args.columns.now in
    let new = c.args.new.now in
    let i = c.args.i in
    let first = c.in_ok-extend_from_slice.ensures.items ∙ ap (λ xs. xs ++ take i columns) c.in_ok-all.ensures.items in
    let second = c.in_ok-extend_from_slice-2.ensures.items ∙ ap (λ xs. xs ++ new) first in
    let third = c.in_ok-extend_from_slice-3.ensures.items ∙ ap (λ xs. c.extend_from_slice-2.new.self.items ++ xs) (rest-of i columns) ∙ ap (λ xs. xs ++ drop (i + 1) columns) second in
    ap plain_columns third ∙ ap plain_columns (replaced-parts i columns new c.requires) ∙ map-replaced plain_column i columns new
