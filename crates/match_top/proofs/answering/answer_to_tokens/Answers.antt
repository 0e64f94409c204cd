use Rattle.decl_lexer.specs.Tokens.{tokens_view}
use Rattle.decl_syntax.specs.Items.{file_view}
use Rattle.match_top.specs.Asked.{request_view}
use Rattle.match_top.proofs.Judged.{file_answer, syntax_answer, width_answer, few_of}
use Rattle.match_top.proofs.answering.answer_to_tokens.Goals as goal

pub answer_to_file-requires-clause-spelled : goal.answer_to_file-requires-clause-spelled
answer_to_file-requires-clause-spelled c = (c.requires.lexed.0, tokens_view c.args.tokens, c.requires.lexed.1, c.in-Ok.ensures.file)

pub answer_to_file-requires-clause-few : goal.answer_to_file-requires-clause-few
answer_to_file-requires-clause-few c = few_of _ _ c.in-Ok.ensures.counts.few_arms c.requires.few

pub returns-in-Ok-clause-answers : goal.returns-in-Ok-clause-answers
returns-in-Ok-clause-answers c = file_answer (request_view c.args.request.now) (tokens_view c.args.tokens) (file_view c.in-Ok.file) _ c.in-Ok.ensures.file c.answer_to_file.ensures.answers

pub returns-in-Syntax-clause-answers : goal.returns-in-Syntax-clause-answers
returns-in-Syntax-clause-answers c =
    let fault = rw c.in-Syntax.is at c.in-Err.ensures.fault in
    syntax_answer (request_view c.args.request.now) (tokens_view c.args.tokens) _ _ _ fault c.refused_in.ensures.answers

pub returns-in-Wide-clause-answers : goal.returns-in-Wide-clause-answers
returns-in-Wide-clause-answers c =
    let fault = rw c.in-Wide.is at c.in-Err.ensures.fault in
    width_answer (request_view c.args.request.now) (tokens_view c.args.tokens) _ _ _ fault c.refused_in-in-Wide.ensures.answers
