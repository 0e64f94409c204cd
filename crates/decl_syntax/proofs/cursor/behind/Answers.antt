use Rattle.std.proofs.Common.{◌∙◌, refl, sym}
use Rattle.decl_syntax.specs.Units.{left}
use Rattle.decl_syntax.proofs.UnitLemmas.{behind_found}
use Rattle.decl_syntax.proofs.cursor.behind.Goals as goal

pub returns-then-eq : goal.returns-then-eq
returns-then-eq c =
    sym (behind_found c.args.mark c.in_ok-first.first c.eq.result (left c.args.at) c.in_ok-first.ensures c.eq.ensures ∙ rw (c.if-eq.true, ← c.in_ok-rest.ensures) refl)

pub returns : goal.returns
returns c =
    sym (behind_found c.args.mark c.in_ok-first.first c.eq.result (left c.args.at) c.in_ok-first.ensures c.eq.ensures ∙ rw c.if-eq.false refl)
