use Rattle.std.proofs.Common.{◌+◌, ◌∙◌, ◌++◌, ap, subst, sym}
use Rattle.pattern_matrix.specs.Sparse.{row_views, columns_from, leaves_listed, AreOver, AreBelow}
use Rattle.pattern_matrix.specs.Views.{plain_rows, plain_leaves}
use Rattle.pattern_matrix.proofs.Opened.{opened_views}
use Rattle.pattern_matrix.proofs.Within.{opened_over, opened_below}
use Rattle.pattern_matrix.proofs.opening.piece_rows.Goals as goal

pub returns-clause-rows : goal.returns-clause-rows
returns-clause-rows g c = λ place piece others below apart are.
    ap (row_views (columns_from c.args.first c.args.count ++ others)) c.in_ok-opened.ensures
    ∙ opened_views place piece c.args.column c.args.first c.args.count others apart (plain_rows c.args.rows.now) (leaves_listed (plain_leaves c.args.leaves.now) c.args.numbers.now) below are

pub returns-clause-over : goal.returns-clause-over
returns-clause-over g c = λ others over.
    subst (AreOver (columns_from c.args.first c.args.count ++ others)) (sym c.in_ok-opened.ensures)
    (opened_over c.args.column c.args.first c.args.count others (plain_rows c.args.rows.now) (plain_leaves c.args.leaves.now) c.args.numbers.now c.requires.parts over)

pub returns-clause-within : goal.returns-clause-within
returns-clause-within g c = λ below.
    subst (AreBelow (c.args.first + c.args.count)) (sym c.in_ok-opened.ensures)
    (opened_below c.args.column c.args.first c.args.count (plain_rows c.args.rows.now) (plain_leaves c.args.leaves.now) c.args.numbers.now c.requires.parts below)
