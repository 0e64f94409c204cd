use Rattle.std.proofs.Common.{arith, rules}
use Rattle.std.proofs.lemmas.Grind.{common_steps}
use Rattle.decl_lexer.proofs.Sources.{mark_bytes}
use Rattle.decl_lexer.proofs.lexing.skip_mark.Goals as goal

pub returns-in-Some-eq65279-default-clause-width : goal.returns-in-Some-eq65279-default-clause-width
returns-in-Some-eq65279-default-clause-width c =
    mark_bytes c.args.text.now c.in-Some-eq65279-default.rest.now c.utf8.text (search rules) (grind (arith, common_steps))
