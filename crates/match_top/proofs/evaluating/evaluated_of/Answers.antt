use Rattle.std.proofs.Common.{refl, sym, ap, subst}
use Rattle.decl_syntax.specs.Functions.{function_view}
use Rattle.pattern_rules.specs.Faults.{IsFirstPatternFault}
use Rattle.verdict_json.specs.Rules.{IsRule}
use Rattle.verdict_json.specs.declared.refusal.Refusal.{Refusal}
use Rattle.match_top.specs.Asked.{evaluation_view}
use Rattle.match_top.specs.Reporting.{setting_in}
use Rattle.match_top.specs.Reports.{numbered}
use Rattle.match_top.proofs.Evaluated.{broken_answer, refusal_is}
use Rattle.match_top.proofs.RuleNames.{fault_is_named}
use Rattle.match_top.proofs.evaluating.evaluated_of.Goals as goal

pub first_fault-requires : goal.first_fault-requires
first_fault-requires c = (c.requires.there.0, c.args.source.now.options.width, c.requires.there.1.table_is)

pub refused-requires : goal.refused-requires
refused-requires c =
    let x = c.args.source.now in
    let whole = c.requires.there.0 in
    let at = c.requires.there.2 in
    let told : IsFirstPatternFault (setting_in x whole) (function_view c.args.f.now) c.in-Some.fault.rule c.in-Some.fault.arm c.in-Some.fault.at =
    rw c.in-Some.is at c.in_ok-fault.ensures.found (setting_in x whole) at.item c.requires.there.1.table_is refl at.there at.is in
    let named : IsRule c.in-Some.fault.rule = fault_is_named (setting_in x whole) (function_view c.args.f.now) _ _ _ told in
    subst IsRule (sym (ap (λ (r : Refusal). r.rule) c.refusal_of.ensures)) named

pub returns-in-Some-clause-answers : goal.returns-in-Some-clause-answers
returns-in-Some-clause-answers c = λ whole sound at.
    let x = c.args.source.now in
    let told : IsFirstPatternFault (setting_in x whole) (function_view c.args.f.now) c.in-Some.fault.rule c.in-Some.fault.arm c.in-Some.fault.at =
    rw c.in-Some.is at c.in_ok-fault.ensures.found (setting_in x whole) at.item sound.table_is refl at.there at.is in
    broken_answer (setting_in x whole) (numbered c.args.number (function_view c.args.f.now)) (evaluation_view c.args.evaluation.now) _ _ _ _ told
    (refusal_is _ _ _ c.refusal_of.ensures c.refused.ensures.answers)

pub evaluated_fine-requires-clause-fine : goal.evaluated_fine-requires-clause-fine
evaluated_fine-requires-clause-fine c =
    let x = c.args.source.now in
    let whole = c.requires.there.0 in
    let at = c.requires.there.2 in (
      whole,
      record {
        sound = c.requires.there.1;
        stands = at;
        fine = c.in_ok-fault.ensures.none (setting_in x whole) at.item c.requires.there.1.table_is refl at.there at.is c.in-None.is;
      },
    )

pub returns-in-None-clause-answers : goal.returns-in-None-clause-answers
returns-in-None-clause-answers c = λ whole sound at.
    c.evaluated_fine.ensures.answers whole (record {
      sound = sound;
      stands = at;
      fine = c.in_ok-fault.ensures.none (setting_in c.args.source.now whole) at.item sound.table_is refl at.there at.is c.in-None.is;
    })
