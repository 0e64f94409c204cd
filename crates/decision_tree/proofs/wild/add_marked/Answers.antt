use Rattle.std.proofs.Common.{◌≡◌, ◌<◌, ◌++◌, ◌∙◌, Some, map, length, drop, get_or, ap, sym, subst, append-nil, arith}
use Rattle.std.specs.Result.{OnOk}
use Rattle.match_model.specs.Matrices.{head_binds}
use Rattle.pat_context.specs.Views.{plain_place}
use Rattle.pattern_arena.specs.Trees.{tree}
use Rattle.keyed_matrix.specs.declared.rows.KeyedColumn.{KeyedColumn}
use Rattle.keyed_matrix.specs.Views.{plain_column, plain_columns, plain_caught, plain_run}
use Rattle.decision_tree.specs.WildColumns.{marked_binds}
use Rattle.decision_tree.proofs.Unmarked.{wilds-names, marked-binds, open-binds}
use Rattle.decision_tree.proofs.WildOut.{pattern-binds}
use Rattle.decision_tree.proofs.wild.add_marked.Goals as goal

pub returns-in-Wilds : goal.returns-in-Wilds
returns-in-Wilds g c =
    let marks = drop c.args.at c.args.marks.now in
    let columns = drop c.args.at (plain_columns c.args.columns.now) in
    let old = map plain_caught c.args.all.now.items in
    sym (append-nil old)
    ∙ ap (λ ns. old ++ ns) (sym (ap (λ r. marked_binds marks columns (plain_run r)) c.in-Wilds.is
    ∙ wilds-names c.in-Wilds._count marks columns))

pub returns-then-marks-at : goal.returns-then-marks-at
returns-then-marks-at g c =
    let marks = c.args.marks.now in
    let at = c.args.at in
    let columns = c.args.columns.now in
    let p = c.in-Written.p.now in
    let column = c.index-columns-at.result in
    let size : length (plain_run c.args.one.now) ≡ 1 = ap (λ r. length (plain_run r)) c.in-Written.is in
    let inside = c.requires.within in
    let within : at < length marks = omega (arith, size, inside) in
    subst (λ ns. OnOk c.add_names.result (map plain_caught c.add_names.new.all.items ≡ map plain_caught c.args.all.now.items ++ ns))
    (pattern-binds (plain_place (get_or columns at column).place.now) p
    ∙ ap (λ (k : KeyedColumn g.row.T.Denot). head_binds (plain_column k).place (Some (tree p))) (sym c.index-columns-at.is)
    ∙ marked-binds marks at _ within columns (Some (tree p)) column c.requires.long c.index-columns-at.is c.if-marks-at.true
    ∙ ap (λ r. marked_binds (drop at marks) (drop at (plain_columns columns)) (plain_run r)) (sym c.in-Written.is))
    c.add_names.ensures

pub returns-else-marks-at : goal.returns-else-marks-at
returns-else-marks-at g c =
    let marks = c.args.marks.now in
    let at = c.args.at in
    let columns = c.args.columns.now in
    let p = c.in-Written.p.now in
    let old = map plain_caught c.args.all.now.items in
    let size : length (plain_run c.args.one.now) ≡ 1 = ap (λ r. length (plain_run r)) c.in-Written.is in
    let inside = c.requires.within in
    let within : at < length marks = omega (arith, size, inside) in
    sym (append-nil old)
    ∙ ap (λ ns. old ++ ns) (open-binds marks at _ within columns (Some (tree p)) c.if-marks-at.false
    ∙ ap (λ r. marked_binds (drop at marks) (drop at (plain_columns columns)) (plain_run r)) (sym c.in-Written.is))
