use Rattle.std.proofs.Common.{◌≡◌, ℕ, ◌+◌, ◌<◌, map, length, None, option_map, sym, ap, ◌∙◌, arith}
use Rattle.decl_syntax.specs.Items.{arm_view}
use Rattle.type_table.specs.Tables.{table_type}
use Rattle.pattern_rules.specs.Faults.{nodes_of_arm, nodes_of_arms, node_rules, alternative_rules}
use Rattle.pattern_rules.specs.FirstFault.{first_at}
use Rattle.pattern_check.specs.FunctionFaults.{fault_view}
use Rattle.pattern_check.proofs.FieldLemmas.{drop_past}
use Rattle.pattern_check.proofs.FunctionLemmas.{arms_pass, arms_stop, arms_fine, view_some, view_none}
use Rattle.pattern_check.proofs.function.arms_alternatives.Goals as goal

pub loop-arm-preserved : goal.loop-arm-preserved
loop-arm-preserved c =
    let t = table_type c.args.table.now c.args.ty in
    let arms = c.args.arms.now in
    let i = c.loop-arm.arm-index in
    let a = c.arm-item.result in
    let lt : i < length arms = omega arith in
    let none : option_map fault_view c.in_ok-fault.fault ≡ None = view_none c.in_ok-fault.fault (sym c.is_some.ensures ∙ c.if-is_some.false) in
    record {
      number = ap (λ (n : ℕ). n + 1) c.loop-arm.invariant.number;
      fine = λ s is f. (arms_fine node_rules s t arms i a lt c.arm-item.is (c.loop-arm.invariant.fine s is f)).1;
      told = λ s is f.
          let here = (arms_fine node_rules s t arms i a lt c.arm-item.is (c.loop-arm.invariant.fine s is f)).0 in
          let numbered : first_at node_rules s (nodes_of_arm s t c.loop-arm.number (arm_view a)) ≡ None = ap (λ (n : ℕ). first_at node_rules s (nodes_of_arm s t n (arm_view a))) c.loop-arm.invariant.number ∙ here in
          c.loop-arm.invariant.told s is f
          ∙ arms_pass alternative_rules s t arms i a lt c.arm-item.is
          (sym none ∙ (c.in_ok-fault.ensures s is numbered ∙ ap (λ (n : ℕ). first_at alternative_rules s (nodes_of_arm s t n (arm_view a))) c.loop-arm.invariant.number));
    }

pub returns-then-is_some : goal.returns-then-is_some
returns-then-is_some c = λ s is f.
    let t = table_type c.args.table.now c.args.ty in
    let arms = c.args.arms.now in
    let i = c.loop-arm.arm-index in
    let a = c.arm-item.result in
    let lt : i < length arms = omega arith in
    let here = (arms_fine node_rules s t arms i a lt c.arm-item.is (c.loop-arm.invariant.fine s is f)).0 in
    let numbered : first_at node_rules s (nodes_of_arm s t c.loop-arm.number (arm_view a)) ≡ None = ap (λ (n : ℕ). first_at node_rules s (nodes_of_arm s t n (arm_view a))) c.loop-arm.invariant.number ∙ here in
    arms_stop alternative_rules s t arms i a lt c.arm-item.is (option_map fault_view c.in_ok-fault.fault) (view_some c.in_ok-fault.fault (sym c.is_some.ensures ∙ c.if-is_some.true))
    (c.in_ok-fault.ensures s is numbered ∙ ap (λ (n : ℕ). first_at alternative_rules s (nodes_of_arm s t n (arm_view a))) c.loop-arm.invariant.number)
    ∙ sym (c.loop-arm.invariant.told s is f)

pub returns : goal.returns
returns c = λ s is f.
    let t = table_type c.args.table.now c.args.ty in
    let arms = c.args.arms.now in
    sym (c.loop-arm.invariant.told s is f
    ∙ ap (λ xs. first_at alternative_rules s (nodes_of_arms s t c.loop-arm.arm-index (map arm_view xs))) (drop_past arms c.loop-arm.arm-index (omega arith)))
