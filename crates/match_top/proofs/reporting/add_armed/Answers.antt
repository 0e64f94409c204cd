use Rattle.std.proofs.Common.{◌≡◌, ◌∙◌, ◌^◌, ℕ, List, map, false, string_bytes, IsTrue, rules, sym, ap, subst, arith}
use Rattle.std.proofs.lemmas.List.{length-map}
use Rattle.std.specs.List.{All}
use Rattle.std.specs.Prelude.{String}
use Rattle.std.specs.declared.alloc.Global.{Global}
use Rattle.arm_maker.specs.Arms.{AreArms, are_small}
use Rattle.arm_maker.specs.Order.{IsOneFirst}
use Rattle.decl_syntax.specs.Functions.{function_view}
use Rattle.decl_syntax.specs.Items.{arm_view}
use Rattle.match_model.specs.Lists.{Ordered}
use Rattle.match_model.specs.OfType.{witness_is_of}
use Rattle.match_model.specs.RustTypes.{rust_context}
use Rattle.type_table.specs.Tables.{table_program, table_type}
use Rattle.verdict_json.specs.Report.{ArmedFunction}
use Rattle.witnesses.specs.Views.{plain_witness}
use Rattle.witnesses.specs.declared.witness.Witness.{Witness}
use Rattle.match_top.specs.Reports.{numbered, IsEntry}
use Rattle.match_top.specs.Reporting.{setting_in}
use Rattle.match_top.proofs.Armed.{witnesses_typed, one_first, refusal_with, arms_entry, large_entry}
use Rattle.match_top.proofs.Matches.{few_arms}
use Rattle.match_top.proofs.Named.{few_held}
use Rattle.match_top.proofs.reporting.add_armed.Goals as goal

pub match_of-requires : goal.match_of-requires
match_of-requires g c = record { fine = (g.whole, c.requires.0) }

pub verdict_on-requires-clause-few : goal.verdict_on-requires-clause-few
verdict_on-requires-clause-few g c =
    few_arms c.args.source.now g.whole (function_view c.args.f) c.in_ok-m.m (2 ^ 32) (c.in_ok-m.ensures g.whole c.requires.0)
    (few_held c.args.f.arms.items (2 ^ 32) c.requires.1)

pub verdict_on-requires-clause-shown : goal.verdict_on-requires-clause-shown
verdict_on-requires-clause-shown g c = (g.whole, function_view c.args.f, c.in_ok-m.ensures g.whole c.requires.0)

pub arm_texts-requires-clause-typed : goal.arm_texts-requires-clause-typed
arm_texts-requires-clause-typed g c =
    let x = c.args.source.now in
    let made = c.in_ok-m.ensures g.whole c.requires.0 in
    subst (λ (ws : List Witness). All (λ w. IsTrue (witness_is_of (rust_context (table_program x.table.now)) (table_type x.table.now c.in_ok-m.m.ty) (plain_witness w))) ws) (sym c.deref.ensures.value)
    (witnesses_typed x g.whole c.args.number (function_view c.args.f) c.in_ok-m.m.ty c.in_ok-judgement.judgement c.requires.0 made.shown.type_is (c.in_ok-judgement.ensures g.whole (function_view c.args.f) made))

pub arm_texts-requires-clause-apart : goal.arm_texts-requires-clause-apart
arm_texts-requires-clause-apart g c =
    let made = c.in_ok-m.ensures g.whole c.requires.0 in
    subst (λ (ws : List Witness). Ordered IsOneFirst (map plain_witness ws)) (sym c.deref.ensures.value)
    (one_first (map plain_witness c.in_ok-judgement.judgement.witnesses.items) (c.in_ok-judgement.ensures g.whole (function_view c.args.f) made).cover.ascending)

pub returns-in-Ok : goal.returns-in-Ok
returns-in-Ok g c = λ command is fs h.
    let x = c.args.source.now in
    let f = function_view c.args.f in
    let made = c.in_ok-m.ensures g.whole c.requires.0 in
    let verdict = c.in_ok-judgement.ensures g.whole f made in
    let arms = subst (λ (ws : List Witness). AreArms (table_program x.table.now) (table_type x.table.now c.in_ok-m.m.ty) (map plain_witness ws) (map string_bytes c.in-Ok.texts.items)) c.deref.ensures.value c.in-Ok.ensures.arms in
    c.add_texts.ensures command (setting_in x g.whole) fs (numbered c.args.number f) h
    (subst (λ (ts : List (String Global)). IsEntry command (setting_in x g.whole) (numbered c.args.number f) (ArmedFunction c.as_str.result.now (map string_bytes ts))) (sym c.deref-in-Ok.ensures.value)
    (arms_entry x g.whole c.args.number f c.in_ok-m.m.ty c.in_ok-judgement.judgement c.requires.0 made.shown.type_is verdict c.arms_complete_match.ensures command _ (map string_bytes c.in-Ok.texts.items) is c.as_str.ensures.value arms))
    (omega (arith, length-map c.args.f.arms.items arm_view, c.len-count.ensures))

pub returns-in-Err-Rule : goal.returns-in-Err-Rule
returns-in-Err-Rule g c = λ command is fs h.
    let x = c.args.source.now in
    let f = function_view c.args.f in
    let made = c.in_ok-m.ensures g.whole c.requires.0 in
    let verdict = c.in_ok-judgement.ensures g.whole f made in
    let fault : (c.in-Err-Rule.rule ≡ 50) × (are_small (table_program x.table.now) (table_type x.table.now c.in_ok-m.m.ty) (map plain_witness c.deref.result.now) ≡ false) = search rules in
    let large =
    subst (λ (ws : List Witness). are_small (table_program x.table.now) (table_type x.table.now c.in_ok-m.m.ty) (map plain_witness ws) ≡ false) c.deref.ensures.value fault.1 in
    c.add_refused.ensures command (setting_in x g.whole) fs (numbered c.args.number f) h
    (large_entry x g.whole c.args.number f c.in_ok-m.m.ty c.in_ok-judgement.judgement c.requires.0 made.shown.type_is verdict command _ _ is c.as_str-in-Err-Rule.ensures.value
    (ap (λ (r : ℕ). refusal_with r c.args.number) (c.in-Err-Rule.rule-is ∙ fault.0)) large)
    (omega (arith, length-map c.args.f.arms.items arm_view, c.len-count.ensures))
