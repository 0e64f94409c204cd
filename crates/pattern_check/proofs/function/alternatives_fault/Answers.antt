use Rattle.std.proofs.Common.{◌≡◌, List, map, Some, None, ap, ◌∙◌}
use Rattle.std.specs.Prelude.{is_some}
use Rattle.match_model.specs.Types.{MType}
use Rattle.decl_syntax.specs.declared.items.Arm.{Arm}
use Rattle.decl_syntax.specs.Functions.{function_view}
use Rattle.decl_syntax.specs.Items.{arm_view}
use Rattle.type_table.specs.Readers.{scrutinee_of, scrutinee_by}
use Rattle.type_table.specs.Tables.{table_type}
use Rattle.pattern_rules.specs.Faults.{parameter_type, nodes_of_arms, node_rules, alternative_rules, function_nodes, breaks_at_scrutinee}
use Rattle.pattern_rules.specs.FirstFault.{first_at, star_fault}
use Rattle.pattern_check.proofs.FieldLemmas.{if_ok}
use Rattle.pattern_check.proofs.FunctionLemmas.{parameter_there, scrutinee_there, both_none, some_star}
use Rattle.pattern_check.proofs.function.alternatives_fault.Goals as goal

pub returns-in-Some : goal.returns-in-Some
returns-in-Some c = λ s i is at fn none.
    let f = function_view c.args.function.now in
    let u = table_type c.args.table.now c.in-Some.ty in
    let told : Some (u, c.in-Some.field-0-1) ≡ scrutinee_by (parameter_type s f) (is_some f.deref)
    = c.in-Some.ensures.told ∙ ap scrutinee_of (parameter_there s c.args.table.now is c.args.item i f at fn) in
    let st = scrutinee_there (parameter_type s f) u f.deref c.in-Some.field-0-1 told in
    let fine = (both_none (star_fault (breaks_at_scrutinee s f) f.deref) (first_at node_rules s (function_nodes s f)) none).1 in
    let there : first_at node_rules s (nodes_of_arms s u 0 (map arm_view c.deref.result.now)) ≡ None
    = ap (λ (arms : List Arm). first_at node_rules s (nodes_of_arms s u 0 (map arm_view arms))) c.deref.ensures.value
    ∙ (ap (λ (t : MType). first_at node_rules s (nodes_of_arms s t 0 f.arms)) st.0 ∙ fine) in
    if_ok c.arms_alternatives.result _ _
    (λ r h.
    h
    ∙ (ap (λ (arms : List Arm). first_at alternative_rules s (nodes_of_arms s u 0 (map arm_view arms))) c.deref.ensures.value
    ∙ ap (λ (t : MType). first_at alternative_rules s (nodes_of_arms s t 0 f.arms)) st.0))
    (c.arms_alternatives.ensures s is there)

pub returns-in-None : goal.returns-in-None
returns-in-None c = λ s i is at fn none.
    let f = function_view c.args.function.now in
    let told : None ≡ scrutinee_by (parameter_type s f) (is_some f.deref)
    = c.in-None.ensures.told ∙ ap scrutinee_of (parameter_there s c.args.table.now is c.args.item i f at fn) in
    absurd (some_star (parameter_type s f) f.deref (first_at node_rules s (function_nodes s f)) told none)
