use Rattle.std.proofs.Common.{◌≡◌, Bool, List, map, Some, None, ap, sym, ◌∙◌}
use Rattle.std.specs.Prelude.{is_some}
use Rattle.match_model.specs.Types.{MType}
use Rattle.decl_syntax.specs.declared.items.Arm.{Arm}
use Rattle.decl_syntax.specs.Functions.{function_view}
use Rattle.decl_syntax.specs.Items.{arm_view}
use Rattle.type_table.specs.Readers.{scrutinee_of, scrutinee_by}
use Rattle.type_table.specs.Tables.{table_type}
use Rattle.pattern_rules.specs.Faults.{parameter_type, nodes_of_arms, node_rules, function_nodes}
use Rattle.pattern_rules.specs.FirstFault.{first_at, fault_or, star_fault}
use Rattle.pattern_check.proofs.FieldLemmas.{if_ok}
use Rattle.pattern_check.proofs.FunctionLemmas.{parameter_there, scrutinee_there, star_there}
use Rattle.pattern_check.proofs.function.scrutinee_or_arms.Goals as goal

pub returns-in-Some : goal.returns-in-Some
returns-in-Some c = λ s i is ed at fn.
    let f = function_view c.args.function.now in
    let u = table_type c.args.table.now c.in-Some.ty in
    let told : Some (u, c.in-Some.field-0-1) ≡ scrutinee_by (parameter_type s f) (is_some f.deref)
    = c.in-Some.ensures.told ∙ ap scrutinee_of (parameter_there s c.args.table.now is c.args.item i f at fn) in
    let st = scrutinee_there (parameter_type s f) u f.deref c.in-Some.field-0-1 told in
    if_ok c.arms_fault.result _ _
    (λ r h.
    h
    ∙ (ap (λ (arms : List Arm). first_at node_rules s (nodes_of_arms s u 0 (map arm_view arms))) c.deref.ensures.value
    ∙ (ap (λ (t : MType). first_at node_rules s (nodes_of_arms s t 0 f.arms)) st.0
    ∙ ap (λ (b : Bool). fault_or (star_fault b f.deref) (first_at node_rules s (function_nodes s f))) (sym st.1))))
    (c.arms_fault.ensures s is ed)

pub returns-in-None : goal.returns-in-None
returns-in-None c = λ s i is ed at fn.
    let f = function_view c.args.function.now in
    let told : None ≡ scrutinee_by (parameter_type s f) (is_some f.deref)
    = c.in-None.ensures.told ∙ ap scrutinee_of (parameter_there s c.args.table.now is c.args.item i f at fn) in
    c.star_fault.ensures ∙ star_there (parameter_type s f) f.deref (first_at node_rules s (function_nodes s f)) told
