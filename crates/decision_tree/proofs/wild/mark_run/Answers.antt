use Rattle.std.proofs.Common.{◌≡◌, length, ap, sym, subst, arith}
use Rattle.keyed_matrix.specs.Views.{plain_run}
use Rattle.decision_tree.specs.WildColumns.{StayWhereWild}
use Rattle.decision_tree.proofs.Marks.{wilds-stay}
use Rattle.decision_tree.proofs.wild.mark_run.Goals as goal

pub returns-in-Wilds : goal.returns-in-Wilds
returns-in-Wilds g c =
    subst (λ r. StayWhereWild c.args.at (plain_run r) c.args.marks.now c.args.marks.now) (sym c.in-Wilds.is)
    (wilds-stay c.args.at c.in-Wilds._count c.args.marks.now)

pub mark_pattern-requires : goal.mark_pattern-requires
mark_pattern-requires g c =
    let one : length (plain_run c.args.one.now) ≡ 1 = ap (λ r. length (plain_run r)) c.in-Written.is in
    omega (arith, one, c.requires)

pub returns-in-Written : goal.returns-in-Written
returns-in-Written g c =
    subst (λ r. StayWhereWild c.args.at (plain_run r) c.args.marks.now c.mark_pattern.new.marks) (sym c.in-Written.is)
    c.mark_pattern.ensures
