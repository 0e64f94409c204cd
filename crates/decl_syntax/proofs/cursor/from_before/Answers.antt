use Rattle.std.proofs.Common.{◌∙◌, ap}
use Rattle.decl_lexer.specs.Stored.{rest_view}
use Rattle.decl_syntax.proofs.UnitLemmas.{number_or, from_first}
use Rattle.decl_syntax.proofs.cursor.from_before.Goals as goal

pub returns-in-Some : goal.returns-in-Some
returns-in-Some c = ap number_or c.in-Some.ensures ∙ from_first (rest_view c.args.tokens)

pub returns-in-None : goal.returns-in-None
returns-in-None c = ap number_or c.in-None.ensures ∙ from_first (rest_view c.args.tokens)
