use Rattle.std.proofs.Common.{◌<◌, ◌≤◌, length, arith}
use Rattle.std.proofs.lemmas.Bool.Decides.{nat_tests}
use Rattle.match_top.specs.Asked.{request_view}
use Rattle.match_top.specs.Answers.{longest_source}
use Rattle.match_top.proofs.Answered.{refused_long, judged_short, refused_itself, judged_itself}
use Rattle.match_top.proofs.answering.answer_to.Goals as goal

pub returns-then-is_too_long-clause-answers : goal.returns-then-is_too_long-clause-answers
returns-then-is_too_long-clause-answers c =
    let over : longest_source < length c.args.source.items = grind (arith, nat_tests) in refused_long (request_view c.args.request.now) _ _ over c.refused_at.ensures.answers

pub returns-clause-answers : goal.returns-clause-answers
returns-clause-answers c =
    let fits : length c.args.source.items ≤ longest_source = grind (arith, nat_tests) in judged_short (request_view c.args.request.now) _ _ fits c.judged.ensures.answers

pub returns-then-is_too_long-clause-itself : goal.returns-then-is_too_long-clause-itself
returns-then-is_too_long-clause-itself c =
    let over : longest_source < length c.args.source.items = grind (arith, nat_tests) in refused_itself (request_view c.args.request.now) _ _ over c.refused_at.ensures.answers

pub returns-clause-itself : goal.returns-clause-itself
returns-clause-itself c =
    let fits : length c.args.source.items ≤ longest_source = grind (arith, nat_tests) in judged_itself (request_view c.args.request.now) _ _ fits c.judged.ensures.answers
