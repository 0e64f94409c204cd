use Rattle.std.proofs.Common.{sym, ◌∙◌}
use Rattle.decision_tree.proofs.Blanks.{not-blank}
use Rattle.decision_tree.proofs.thin.is_blank.Goals as goal

pub returns-else-is_empty : goal.returns-else-is_empty
returns-else-is_empty g c =
    c.if-is_empty.false ∙ sym (not-blank c.args.pat.now (sym c.is_empty.ensures ∙ c.if-is_empty.false))
