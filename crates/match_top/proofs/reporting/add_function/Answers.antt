use Rattle.std.proofs.Common.{refl, sym, ap, subst, arith}
use Rattle.std.proofs.lemmas.List.{length-map}
use Rattle.decl_syntax.specs.Items.{arm_view}
use Rattle.decl_syntax.specs.Functions.{function_view}
use Rattle.pattern_rules.specs.Faults.{IsFirstPatternFault}
use Rattle.verdict_json.specs.Rules.{IsRule}
use Rattle.verdict_json.specs.declared.refusal.Refusal.{Refusal}
use Rattle.match_top.specs.Reports.{numbered, is_refused}
use Rattle.match_top.specs.Reporting.{setting_in}
use Rattle.match_top.proofs.Entries.{same_refusal}
use Rattle.match_top.proofs.RuleNames.{fault_is_named}
use Rattle.match_top.proofs.reporting.add_function.Goals as goal

pub first_fault-requires : goal.first_fault-requires
first_fault-requires g c = (g.whole, c.args.source.now.options.width, c.requires.0.table_is)

pub add_refused-requires : goal.add_refused-requires
add_refused-requires g c =
    let x = c.args.source.now in
    let at = c.requires.1.0 in
    let told : IsFirstPatternFault (setting_in x g.whole) (function_view c.args.f) c.in-Some.fault.rule c.in-Some.fault.arm c.in-Some.fault.at =
    rw c.in-Some.is at c.in_ok-fault.ensures.found (setting_in x g.whole) at.item c.requires.0.table_is refl at.there at.is in
    let named : IsRule c.in-Some.fault.rule = fault_is_named (setting_in x g.whole) (function_view c.args.f) _ _ _ told in
    subst IsRule (sym (ap (λ (r : Refusal). r.rule) c.refusal_of-refusal.ensures)) named

pub returns-in-Some : goal.returns-in-Some
returns-in-Some g c = λ fs h.
    let x = c.args.source.now in
    let at = c.requires.1.0 in
    let told : IsFirstPatternFault (setting_in x g.whole) (function_view c.args.f) c.in-Some.fault.rule c.in-Some.fault.arm c.in-Some.fault.at =
    rw c.in-Some.is at c.in_ok-fault.ensures.found (setting_in x g.whole) at.item c.requires.0.table_is refl at.there at.is in
    c.add_refused.ensures c.args.command (setting_in x g.whole) fs (numbered c.args.number (function_view c.args.f)) h
    (is_refused (record {
      rule = c.in-Some.fault.rule;
      arm = c.in-Some.fault.arm;
      at = c.in-Some.fault.at;
      fault = told;
      tells = same_refusal _ _ _ _ c.as_str.ensures.value c.refusal_of-refusal.ensures;
    }))
    (omega (arith, length-map c.args.f.arms.items arm_view, c.len.ensures))

pub add_fine-requires : goal.add_fine-requires
add_fine-requires g c =
    let x = c.args.source.now in
    let at = c.requires.1.0 in (
      record {
        sound = c.requires.0;
        stands = at;
        fine = c.in_ok-fault.ensures.none (setting_in x g.whole) at.item c.requires.0.table_is refl at.there at.is c.in-None.is;
      },
      c.requires.1.1,
    )
