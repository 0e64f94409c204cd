use Rattle.std.proofs.Common.{rules, subst, sym}
use Rattle.decl_syntax.specs.Items.{file_view}
use Rattle.type_table.specs.Faults.{IsFirstFault}
use Rattle.verdict_json.specs.Rules.{IsRule}
use Rattle.match_top.specs.Asked.{request_view}
use Rattle.match_top.proofs.Judged.{declaration_answer, done_answer, has_name}
use Rattle.match_top.proofs.answering.answer_to_file.Goals as goal

pub refused_in-requires : goal.refused_in-requires
refused_in-requires c =
    let fault : IsFirstFault (file_view c.args.file) c.args.request.now.options.width c.in-Err-Rule.rule c.in-Err-Rule.item c.in-Err-Rule.at = search rules in
    subst IsRule (sym c.in-Err-Rule.rule-is) (has_name _ _ _ _ _ fault)

pub returns-in-Err-Rule-clause-answers : goal.returns-in-Err-Rule-clause-answers
returns-in-Err-Rule-clause-answers c =
    let fault : IsFirstFault (file_view c.args.file) c.args.request.now.options.width c.in-Err-Rule.rule c.in-Err-Rule.item c.in-Err-Rule.at = search rules in
    let refused = rw (c.in-Err-Rule.rule-is, c.in-Err-Rule.item-is, c.in-Err-Rule.at-is) at c.refused_in.ensures.answers in
    declaration_answer (request_view c.args.request.now) (file_view c.args.file) _ _ _ _ fault refused

pub returns-in-Ok-clause-answers : goal.returns-in-Ok-clause-answers
returns-in-Ok-clause-answers c = done_answer (request_view c.args.request.now) (file_view c.args.file) _ c.done.ensures.answers
