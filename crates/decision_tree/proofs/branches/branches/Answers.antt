use Rattle.std.proofs.Common.{◌≡◌, ◌+◌, ◌∙◌, [], map, length, refl, sym, ap, subst, arith}
use Rattle.std.proofs.lemmas.List.{length-map}
use Rattle.std.specs.List.{All}
use Rattle.match_model.specs.FewestBranches.{AreBranches}
use Rattle.match_model.specs.Lowering.{ctors_at}
use Rattle.match_model.specs.Steps.{expand_head, rows_at}
use Rattle.pat_context.specs.Views.{plain_ctor}
use Rattle.constructor_sets.specs.Columns.{plain_ctors}
use Rattle.keyed_matrix.specs.Views.{plain_column, plain_columns, plain_rows}
use Rattle.keyed_steps.proofs.Standing.{column-at}
use Rattle.decision_tree.proofs.Apart.{none-of, some-of, zero-long, some-long, none-mapped, all-wild, some-open}
use Rattle.decision_tree.proofs.CountingCases.{more_missing, no-branches, found-branches}
use Rattle.decision_tree.proofs.Reading.{read-map, read-one}
use Rattle.decision_tree.proofs.TypedRows.{IsSharp, sharp-expanded}
use Rattle.decision_tree.proofs.branches.branches.Goals as goal

pub returns-then-is_empty : goal.returns-then-is_empty
returns-then-is_empty g c = λ d e.
    let column = c.index-columns-i.result in
    let place = (plain_column column).place in
    let rows = rows_at expand_head place c.args.i (plain_rows c.args.rows.now) in
    let ctors = c.args.ctors.now in
    let length_is : length ctors ≡ 0 = zero-long c.is_empty.result (length ctors) c.is_empty.ensures c.if-is_empty.true in
    let none : ctors_at c.args.i rows ≡ [] = sym (c.requires.ctors place) ∙ ap (map plain_ctor) (none-of ctors length_is) in
    subst (λ x. AreBranches (g.C.PatCx.context c.args.cx.now) (g.C.PatCx.is_value c.args.cx.now) c.args.i
    (plain_column x) (plain_rows c.args.rows.now) 0)
    (read-one c.args.columns.now c.args.i column d e c.index-columns-i.is)
    (no-branches (g.C.PatCx.is_value c.args.cx.now) (g.C.PatCx.context c.args.cx.now) c.args.i (plain_column column)
    (plain_rows c.args.rows.now) rows refl (all-wild c.args.i rows none))

pub present-requires-clause-ty : goal.present-requires-clause-ty
present-requires-clause-ty g c =
    column-at (λ x. g.C.PatCx.is_type c.args.cx.now x.type) (plain_columns c.args.columns.now) c.args.i
    (plain_column c.index-columns-i.result) c.requires.typed.types
    (read-map plain_column c.args.columns.now c.args.i c.index-columns-i.result c.requires.within c.index-columns-i.is)

pub present-requires-clause-heads : goal.present-requires-clause-heads
present-requires-clause-heads g c =
    let column = plain_column c.index-columns-i.result in
    let ctors = c.requires.ctors column.place in
    subst (All (IsSharp ((g.C.PatCx.context c.args.cx.now).set_of column.type))) (sym ctors)
    (sharp-expanded (g.C.PatCx.is_type c.args.cx.now) (g.C.PatCx.context c.args.cx.now) (plain_columns c.args.columns.now)
    (plain_rows c.args.rows.now) c.requires.typed c.args.i column
    (read-map plain_column c.args.columns.now c.args.i c.index-columns-i.result c.requires.within c.index-columns-i.is))

pub returns-then-found : goal.returns-then-found
returns-then-found g c = λ d e.
    let column = c.index-columns-i.result in
    let found = c.in_ok-found.found in
    let ctors : c.len-count.result ≡ length (plain_ctors found.ctors.items) =
    (let read = c.len-count.ensures in let long = length-map found.ctors.items plain_ctor in
    omega (arith, read, long, found.ctors.ok.0)) in
    let missing : more_missing found.missing ≡ 1 = ap more_missing c.if-found.true in
    let count : length (plain_ctors found.ctors.items) + more_missing found.missing ≡ c.len-count.result + 1 =
    omega (arith, ctors, missing) in
    let place = (plain_column column).place in
    let rows = rows_at expand_head place c.args.i (plain_rows c.args.rows.now) in
    let heads = c.requires.ctors place in
    let unless_wild = some-open c.args.i rows (λ k. some-of c.args.ctors.now
    (some-long c.is_empty.result (length c.args.ctors.now) c.is_empty.ensures c.if-is_empty.false)
    (none-mapped plain_ctor c.args.ctors.now (heads ∙ k))) in
    subst (λ x. AreBranches (g.C.PatCx.context c.args.cx.now) (g.C.PatCx.is_value c.args.cx.now) c.args.i
    (plain_column x) (plain_rows c.args.rows.now) (c.len-count.result + 1))
    (read-one c.args.columns.now c.args.i column d e c.index-columns-i.is)
    (subst (AreBranches (g.C.PatCx.context c.args.cx.now) (g.C.PatCx.is_value c.args.cx.now) c.args.i
    (plain_column column) (plain_rows c.args.rows.now)) count
    (found-branches (g.C.PatCx.is_value c.args.cx.now) (g.C.PatCx.context c.args.cx.now) c.args.i (plain_column column)
    (plain_rows c.args.rows.now) rows refl
    (plain_ctors c.args.ctors.now) (plain_ctors found.ctors.items) found.missing (plain_ctors found.gaps.items)
    unless_wild heads c.in_ok-found.ensures.found))

pub returns : goal.returns
returns g c = λ d e.
    let column = c.index-columns-i.result in
    let found = c.in_ok-found.found in
    let ctors : c.len-count.result ≡ length (plain_ctors found.ctors.items) =
    (let read = c.len-count.ensures in let long = length-map found.ctors.items plain_ctor in
    omega (arith, read, long, found.ctors.ok.0)) in
    let missing : more_missing found.missing ≡ 0 = ap more_missing c.if-found.false in
    let count : length (plain_ctors found.ctors.items) + more_missing found.missing ≡ c.len-count.result =
    omega (arith, ctors, missing) in
    let place = (plain_column column).place in
    let rows = rows_at expand_head place c.args.i (plain_rows c.args.rows.now) in
    let heads = c.requires.ctors place in
    let unless_wild = some-open c.args.i rows (λ k. some-of c.args.ctors.now
    (some-long c.is_empty.result (length c.args.ctors.now) c.is_empty.ensures c.if-is_empty.false)
    (none-mapped plain_ctor c.args.ctors.now (heads ∙ k))) in
    subst (λ x. AreBranches (g.C.PatCx.context c.args.cx.now) (g.C.PatCx.is_value c.args.cx.now) c.args.i
    (plain_column x) (plain_rows c.args.rows.now) (c.len-count.result))
    (read-one c.args.columns.now c.args.i column d e c.index-columns-i.is)
    (subst (AreBranches (g.C.PatCx.context c.args.cx.now) (g.C.PatCx.is_value c.args.cx.now) c.args.i
    (plain_column column) (plain_rows c.args.rows.now)) count
    (found-branches (g.C.PatCx.is_value c.args.cx.now) (g.C.PatCx.context c.args.cx.now) c.args.i (plain_column column)
    (plain_rows c.args.rows.now) rows refl
    (plain_ctors c.args.ctors.now) (plain_ctors found.ctors.items) found.missing (plain_ctors found.gaps.items)
    unless_wild heads c.in_ok-found.ensures.found))
