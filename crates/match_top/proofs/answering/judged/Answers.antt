use Rattle.std.proofs.Common.{rules}
use Rattle.decl_lexer.specs.Lexing.{HasTokens, HasFault}
use Rattle.decl_lexer.specs.Tokens.{tokens_view}
use Rattle.match_top.specs.Asked.{request_view}
use Rattle.match_top.proofs.Judged.{fault_answer, tokens_answer}
use Rattle.match_top.proofs.answering.judged.Goals as goal

pub returns-in-Ok-clause-answers : goal.returns-in-Ok-clause-answers
returns-in-Ok-clause-answers c =
    let lexed : HasTokens c.args.source.items (tokens_view c.in-Ok.tokens) = search rules in
    tokens_answer (request_view c.args.request.now) c.args.source.items (tokens_view c.in-Ok.tokens) _ lexed c.answer_to_tokens.ensures.answers

pub returns-in-Err-Rule-clause-answers : goal.returns-in-Err-Rule-clause-answers
returns-in-Err-Rule-clause-answers c =
    let fault : HasFault c.args.source.items c.in-Err-Rule.rule c.in-Err-Rule.at = search rules in
    let refused = rw (c.in-Err-Rule.rule-is, c.in-Err-Rule.at-is) at c.refused_at.ensures.answers in
    fault_answer (request_view c.args.request.now) c.args.source.items _ _ _ fault refused
