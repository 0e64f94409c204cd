use Rattle.std.proofs.Common.{◌≡◌, ◌∙◌, map, length, ap, sym, subst, arith}
use Rattle.std.specs.List.{list_any}
use Rattle.std.proofs.lemmas.List.{length-map}
use Rattle.keyed_matrix.specs.Views.{plain_column, plain_columns, plain_rows}
use Rattle.decision_tree.specs.Matrices.{matrix_columns, matrix_rows}
use Rattle.decision_tree.specs.WildColumns.{unmarked, unmarked_row, AreLeftOut, AreWildMarks}
use Rattle.decision_tree.proofs.Unmarked.{unmarked-map}
use Rattle.decision_tree.proofs.WildOut.{unmarked-out, none-out-at-all}
use Rattle.decision_tree.proofs.wild.without_wild.Goals as goal

pub returns-then-not-is_some_marked : goal.returns-then-not-is_some_marked
returns-then-not-is_some_marked g c =
    let m = c.args.m in
    let columns = matrix_columns m in
    let rows = matrix_rows m in
    let marks = c.in_ok-marks.marks.items in
    let long = length-map m.columns.items plain_column in
    let count = c.len.ensures in
    let ok = m.columns.ok.0 in
    let same : c.len.result ≡ length columns = omega (arith, long, count, ok) in
    let are = subst (λ n. AreWildMarks n rows marks) same
    (subst (λ rs. AreWildMarks c.len.result (plain_rows rs) marks) c.deref.ensures.value c.in_ok-marks.ensures) in
    none-out-at-all columns rows marks c.requires are
    (ap (list_any (λ b. b)) (sym c.deref-2.ensures.value) ∙ sym c.is_some_marked.ensures ∙ c.if-not-is_some_marked.true)

pub returns : goal.returns
returns g c =
    let m = c.args.m in
    let columns = matrix_columns m in
    let rows = matrix_rows m in
    let marks = c.in_ok-marks.marks.items in
    let long = length-map m.columns.items plain_column in
    let count = c.len.ensures in
    let ok = m.columns.ok.0 in
    let same : c.len.result ≡ length columns = omega (arith, long, count, ok) in
    let are = subst (λ n. AreWildMarks n rows marks) same
    (subst (λ rs. AreWildMarks c.len.result (plain_rows rs) marks) c.deref.ensures.value c.in_ok-marks.ensures) in
    let new : plain_columns c.in_ok-columns.columns.items ≡ unmarked marks columns =
    ap plain_columns (c.in_ok-columns.ensures ∙ (λ k. unmarked (c.deref-5.ensures.value k) (c.deref-6.ensures.value k)))
    ∙ unmarked-map plain_column marks m.columns.items in
    let made : plain_rows c.in_ok-rows.rows.items ≡ map (unmarked_row marks columns) rows =
    c.in_ok-rows.ensures
    ∙ (λ k. map (unmarked_row (c.deref-3.ensures.value k) (plain_columns (c.deref-4.ensures.value k))) rows) in
    subst (λ cs. AreLeftOut columns rows cs (plain_rows c.in_ok-rows.rows.items)) (sym new)
    (subst (AreLeftOut columns rows (unmarked marks columns)) (sym made)
    (unmarked-out columns rows marks c.requires are))
