use Rattle.std.proofs.Common.{◌++◌, sym, subst}
use Rattle.std.proofs.lemmas.Result.{on_ok_weaker}
use Rattle.pattern_matrix.specs.Sparse.{columns_from}
use Rattle.pattern_matrix.specs.Views.{plain_leaf}
use Rattle.usefulness.specs.Children.{opened_at}
use Rattle.usefulness.specs.States.{IsListed, apart_rows, other_numbers, scope_of}
use Rattle.usefulness.proofs.Steps.{listed_closed}
use Rattle.usefulness.proofs.entering.list_opened.Goals as goal

pub returns-then-listing : goal.returns-then-listing
returns-then-listing g c = λ old through l.
    let a = c.args.a.now in
    listed_closed (scope_of c.args.reached.now) old (columns_from a.next c.args.count ++ other_numbers a) through
    (opened_at c.args.missing a.taken.number a.next c.args.count (apart_rows a) (plain_leaf c.args.leaf.now)) c.args.reached.now c.args.listing.now l c.if-listing.true

pub returns : goal.returns
returns g c =
    let a = c.args.a.now in
    let scope = scope_of c.args.reached.now in
    let columns = columns_from a.next c.args.count ++ other_numbers a in
    on_ok_weaker c.list_row.result
    (λ f old through l.
    subst (λ ys. IsListed scope old c.list_row.new.reached columns (through ++ ys) c.list_row.new.listing) (sym c.in_ok-row.ensures.at)
    (f scope old columns through l (c.in_ok-row.ensures.row scope (other_numbers a) c.requires.known c.requires.apart.rows)))
    c.list_row.ensures
