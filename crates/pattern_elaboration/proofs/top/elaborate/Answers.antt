use Rattle.std.proofs.Common.{◌≡◌, Bool, List, map, Some, None, ap, subst, ◌∙◌}
use Rattle.std.specs.Prelude.{is_some}
use Rattle.match_model.specs.Lists.{Each}
use Rattle.decl_syntax.specs.declared.items.Arm.{Arm}
use Rattle.decl_syntax.specs.Functions.{function_view}
use Rattle.decl_syntax.specs.Items.{arm_view}
use Rattle.pat_context.specs.Views.{is_sure}
use Rattle.pattern_arena.specs.Trees.{plain_arm, plain_match}
use Rattle.type_table.specs.declared.table.TyId.{TyId}
use Rattle.type_table.specs.Readers.{scrutinee_of, scrutinee_by}
use Rattle.type_table.specs.Tables.{table_type}
use Rattle.pattern_rules.specs.Faults.{parameter_type}
use Rattle.pattern_elaboration.specs.Arms.{IsArmShown, validity_by}
use Rattle.pattern_elaboration.proofs.ArmLists.{match_made, match_shown}
use Rattle.pattern_elaboration.proofs.Scrutinees.{parameter_there, scrutinee_there, scrutinee_missing, sure_by}
use Rattle.pattern_elaboration.proofs.top.elaborate.Goals as goal
use Rattle.std.proofs.Common.{refl}

pub returns-in_default-clause-shown : goal.returns-in_default-clause-shown
returns-in_default-clause-shown c = λ s i is at fn fine sound.
    let f = function_view c.args.function.now in
    let told : None ≡ scrutinee_by (parameter_type s f) (is_some f.deref)
    = c.in_default.ensures.told ∙ ap scrutinee_of (parameter_there s c.args.table.now is c.args.item i f at fn) in
    absurd (scrutinee_missing (parameter_type s f) f.deref told fine.scrutinee)

pub returns-clause-shown : goal.returns-clause-shown
returns-clause-shown c = λ s i is at fn fine sound.
    let table = c.args.table.now in
    let f = function_view c.args.function.now in
    let t = table_type table c.in-Some.ty in
    let ds = c.in_ok-arms.arms.now in
    let told : Some (t, c.in-Some.field-0-1) ≡ scrutinee_by (parameter_type s f) (is_some f.deref)
    = c.in-Some.ensures.told ∙ ap scrutinee_of (parameter_there s table is c.args.item i f at fn) in
    let each : Each (IsArmShown table t) f.arms (map plain_arm ds)
    = subst (λ (arms : List Arm). Each (IsArmShown table t) (map arm_view arms)
    (map plain_arm ds)) c.deref.ensures.value c.in_ok-arms.ensures.shown in
    match_shown table s f t c.in_ok-arms.ensures.made.0
    (plain_match {T = TyId}
    (record { ty = c.in-Some.ty; validity = c.validity_by-validity.result; arms = c.in_ok-arms.arms })) ds
    is sound (scrutinee_there (parameter_type s f) t f.deref c.in-Some.field-0-1 told) refl
    (ap is_sure c.validity_by-validity.ensures ∙ (ap (λ (b : Bool). is_sure (validity_by b)) c.is_some.ensures
    ∙ sure_by f.deref))
    refl each c.in_ok-arms.ensures.made.1

pub returns-clause-made : goal.returns-clause-made
returns-clause-made c =
    match_made c.args.table.now c.in_ok-arms.ensures.made.0
    (plain_match {T = TyId}
    (record { ty = c.in-Some.ty; validity = c.validity_by-validity.result; arms = c.in_ok-arms.arms }))
    c.in_ok-arms.arms.now
    c.in-Some.ensures.of refl c.in_ok-arms.ensures.made.1
