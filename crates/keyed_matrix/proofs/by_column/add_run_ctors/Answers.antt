use Rattle.std.proofs.Common.{◌≡◌, length, ap, sym, subst, arith, OnOk}
use Rattle.match_model.specs.Rows.{wildcards}
use Rattle.keyed_matrix.specs.InColumns.{HaveMore, ctors_from}
use Rattle.keyed_matrix.specs.Views.{plain_run}
use Rattle.keyed_matrix.proofs.ByColumn.{none-more-in, wilds-from}
use Rattle.keyed_matrix.proofs.by_column.add_run_ctors.Goals as goal

pub returns-in-Wilds : goal.returns-in-Wilds
returns-in-Wilds g c =
    let lists = c.args.lists.now.items in
    subst (λ r. HaveMore c.args.wanted.now lists lists (ctors_from c.args.at (plain_run r))) (sym c.in-Wilds.is)
    (none-more-in c.args.wanted.now lists (ctors_from c.args.at (wildcards c.in-Wilds._count))
    (λ i w. wilds-from _ c.args.at c.in-Wilds._count i))

pub add_column_ctors-requires-clause-within : goal.add_column_ctors-requires-clause-within
add_column_ctors-requires-clause-within g c =
    let one : length (plain_run c.args.one.now) ≡ 1 = ap (λ r. length (plain_run r)) c.in-Written.is in
    let within = c.requires.within in
    omega (arith, one, within)

pub returns-in-Written : goal.returns-in-Written
returns-in-Written g c =
    subst (λ r. OnOk c.add_column_ctors.result
    (HaveMore c.args.wanted.now c.args.lists.now.items c.add_column_ctors.new.lists.items (ctors_from c.args.at (plain_run r))))
    (sym c.in-Written.is) c.add_column_ctors.ensures
