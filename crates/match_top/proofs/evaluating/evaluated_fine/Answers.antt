use Rattle.std.proofs.Common.{◌^◌, subst, sym}
use Rattle.decl_syntax.specs.Functions.{function_view}
use Rattle.pat_context.specs.Views.{is_sure}
use Rattle.pattern_arena.specs.Trees.{plain_match}
use Rattle.tree_eval.specs.Views.{plain_value}
use Rattle.type_table.specs.Tables.{table_program, table_type}
use Rattle.value_text.specs.Reading.{IsUnreadValue}
use Rattle.verdict_json.specs.Rules.{IsRule}
use Rattle.match_top.specs.Asked.{evaluation_view}
use Rattle.match_top.proofs.Evaluated.{answers_given, in_domain, read_answer, unread_answer, unread_is_named}
use Rattle.match_top.proofs.Matches.{few_arms}
use Rattle.match_top.proofs.Named.{few_held}
use Rattle.match_top.proofs.evaluating.evaluated_fine.Goals as goal

pub read_value-requires-clause-of : goal.read_value-requires-clause-of
read_value-requires-clause-of c = (c.in_ok-m.ensures c.requires.fine.0 c.requires.fine.1).type_is

pub read_value-requires-clause-file : goal.read_value-requires-clause-file
read_value-requires-clause-file c = (c.requires.fine.0, c.args.source.now.options.width, c.requires.fine.1.sound.table_is)

pub refused_at-requires : goal.refused_at-requires
refused_at-requires c =
    let table = c.args.source.now.table.now in
    let m = c.in_ok-m.m in
    let unread : IsUnreadValue (table_program table) (is_sure m.validity) (table_type table m.ty) c.args.evaluation.now.value.now c.in-Err-Rule.rule =
    rw c.in-Err-Rule.field-0-is at c.in-Err-Rule.ensures.fault in
    subst IsRule (sym c.in-Err-Rule.rule-is) (unread_is_named _ _ _ _ _ unread)

pub returns-in-Err-Rule-clause-answers : goal.returns-in-Err-Rule-clause-answers
returns-in-Err-Rule-clause-answers c = λ whole fine.
    let x = c.args.source.now in
    let f = function_view c.args.f.now in
    let m = c.in_ok-m.m in
    let unread : IsUnreadValue (table_program x.table.now) (is_sure m.validity) (table_type x.table.now m.ty) c.args.evaluation.now.value.now c.in-Err-Rule.rule =
    rw c.in-Err-Rule.field-0-is at c.in-Err-Rule.ensures.fault in
    unread_answer x whole f (plain_match m) (c.in_ok-m.ensures whole fine) c.args.number (evaluation_view c.args.evaluation.now) c.in-Err-Rule.rule _ fine.fine unread
    (rw c.in-Err-Rule.rule-is at c.refused_at.ensures.answers)

pub outcome_of-requires-clause-few : goal.outcome_of-requires-clause-few
outcome_of-requires-clause-few c =
    few_arms c.args.source.now c.requires.fine.0 (function_view c.args.f.now) c.in_ok-m.m (2 ^ 32) (c.in_ok-m.ensures c.requires.fine.0 c.requires.fine.1)
    (few_held c.args.f.now.arms.items (2 ^ 32) c.requires.few)

pub outcome_of-requires-clause-ready : goal.outcome_of-requires-clause-ready
outcome_of-requires-clause-ready c =
    let x = c.args.source.now in
    let whole = c.requires.fine.0 in
    let f = function_view c.args.f.now in
    let m = plain_match c.in_ok-m.m in
    let made = c.in_ok-m.ensures whole c.requires.fine.1 in (
      whole,
      f,
      record { match_is = made; inside = in_domain x whole f m made (plain_value c.in-Ok.value) c.in-Ok.ensures.value },
    )

pub returns-clause-answers : goal.returns-clause-answers
returns-clause-answers c = λ whole fine.
    let x = c.args.source.now in
    let f = function_view c.args.f.now in
    let m = plain_match c.in_ok-m.m in
    let v = plain_value c.in-Ok.value in
    let made = c.in_ok-m.ensures whole fine in
    let told = c.outcome_of.ensures.answers whole f (record {
      match_is = made;
      inside = in_domain x whole f m made v c.in-Ok.ensures.value;
    }) in
    read_answer x whole f m made c.args.number (evaluation_view c.args.evaluation.now) v _ fine.fine c.in-Ok.ensures.read
    (answers_given x whole f v _ _ _ _ c.deref.ensures.value c.in_ok-answers.ensures told)
