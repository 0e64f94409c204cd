use Rattle.std.proofs.Common.{sym, ◌∙◌}
use Rattle.decl_lexer.proofs.LexLemmas.{past_spaces}
use Rattle.decl_lexer.proofs.lexing.behind_spaces.Goals as goal

pub returns-in-Some-clause-first : goal.returns-in-Some-clause-first
returns-in-Some-clause-first c x found =
    past_spaces c.args.at c.in-Some.first c.args.rest.now c.in-Some.behind.now c.skip_spaces-after.result.now x (sym c.is_space.ensures ∙ c.if-is_space.true) c.utf8.rest c.skip_spaces-after.utf8
    c.in-Some.ensures.cases c.skip_spaces-after.ensures.rest found
