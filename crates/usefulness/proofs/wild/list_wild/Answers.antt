use Rattle.std.proofs.Common.{◌++◌, sym, subst}
use Rattle.std.proofs.lemmas.Result.{on_ok_weaker}
use Rattle.usefulness.specs.States.{IsListed, other_numbers, scope_of}
use Rattle.usefulness.proofs.wild.list_wild.Goals as goal

pub returns-in_ok-row : goal.returns-in_ok-row
returns-in_ok-row g c =
    let a = c.args.a.now in
    let scope = scope_of c.args.reached.now in
    on_ok_weaker c.list_row.result
    (λ f old through l.
    subst (λ ys. IsListed scope old c.list_row.new.reached (other_numbers a) (through ++ ys) c.list_row.new.listing) (sym c.in_ok-row.ensures.at)
    (f scope old (other_numbers a) through l (c.in_ok-row.ensures.row scope (other_numbers a) c.requires.apart.rows)))
    c.list_row.ensures
