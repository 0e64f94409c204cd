use Rattle.std.proofs.Common.{◌≡◌, ◌∙◌, length, ap, subst, arith, IfOk}
use Rattle.std.proofs.lemmas.Result.{IfOk-weaker}
use Rattle.pat_context.specs.Views.{plain_ctor}
use Rattle.pattern_matrix.specs.Sparse.{columns_from}
use Rattle.usefulness.specs.Frames.{numbers}
use Rattle.usefulness.specs.States.{plain_opens, apart_place}
use Rattle.usefulness.proofs.Having.{parts_count, count_of}
use Rattle.usefulness.proofs.Steps.{on_ok_held}
use Rattle.usefulness.proofs.entering.part_columns.Goals as goal

pub returns-clause-numbers : goal.returns-clause-numbers
returns-clause-numbers g c =
    let a = c.args.a.now in
    let long = ap length c.deref.ensures.value
    ∙ parts_count (g.C.PatCx.context c.args.cx.now) (apart_place a) (plain_ctor c.args.piece.now) c.new-columns.result.items c.open_columns.new.columns.items c.in_ok-open_columns.ensures.opened c.new-columns.ensures.items in
    subst (λ n. IfOk c.number_columns.result (λ v. numbers (plain_opens v.items) ≡ columns_from a.next n)) long c.number_columns.ensures.numbers

pub returns-clause-count : goal.returns-clause-count
returns-clause-count g c =
    let a = c.args.a.now in
    let n = (g.C.PatCx.context c.args.cx.now).arity (plain_ctor c.args.piece.now) a.taken.column.ty in
    IfOk-weaker c.number_columns.result (λ v. numbers (plain_opens v.items) ≡ columns_from a.next n) (λ v. length v.items ≡ n) (λ v e. count_of v.items a.next n e) (returns-clause-numbers g c)

pub returns-clause-fits : goal.returns-clause-fits
returns-clause-fits g c =
    let a = c.args.a.now in
    let long =
    parts_count (g.C.PatCx.context c.args.cx.now) (apart_place a) (plain_ctor c.args.piece.now) c.new-columns.result.items c.open_columns.new.columns.items c.in_ok-open_columns.ensures.opened c.new-columns.ensures.items in
    let fits = c.in-Some.ensures in
    let small = fits.0 in
    let same = c.len.ensures in
    on_ok_held c.number_columns.result (omega (arith, small, same, long, c.open_columns.new.columns.ok.0))
