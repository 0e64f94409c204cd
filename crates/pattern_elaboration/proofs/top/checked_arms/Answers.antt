use Rattle.std.proofs.Common.{◌<◌, ◌≤◌, List, map, length, subst, sym, arith}
use Rattle.std.proofs.lemmas.List.{take_all}
use Rattle.match_model.specs.Lists.{Each}
use Rattle.match_model.specs.ArenaPatterns.{MDePat}
use Rattle.decl_syntax.specs.declared.items.Arm.{Arm}
use Rattle.decl_syntax.specs.Items.{arm_view}
use Rattle.pattern_arena.specs.Trees.{tree, plain_arm}
use Rattle.type_table.specs.declared.table.TyId.{TyId}
use Rattle.type_table.specs.Tables.{IsOf, table_type}
use Rattle.pattern_elaboration.specs.Arms.{IsArmShown, arm_trees}
use Rattle.pattern_elaboration.specs.Numbered.{AreMade}
use Rattle.pattern_elaboration.proofs.ArmLists.{arms_more, arm_trees_more}
use Rattle.pattern_elaboration.proofs.Numbering.{made_more}
use Rattle.pattern_elaboration.proofs.top.checked_arms.Goals as goal

pub loop-arm-preserved : goal.loop-arm-preserved
loop-arm-preserved c =
    let table = c.args.table.now in
    let arms = c.args.arms.now in
    let i = c.loop-arm.arm-index in
    let done = c.loop-arm.checked.items in
    let made = c.in_ok-made.made in
    let lt : i < length arms = omega arith in
    rw c.in_ok-push.ensures.items record {
      shown = arms_more (IsArmShown table (table_type table c.args.ty)) arms i c.arm-item.result done made lt
          c.arm-item.is c.loop-arm.invariant.shown c.in_ok-made.ensures.shown;
      made = subst (λ (ps : List (MDePat TyId)). AreMade (IsOf table) 0 c.checked_arm.new.next ps)
          (sym (arm_trees_more done made))
          (made_more (IsOf table) 0 c.loop-arm.next c.checked_arm.new.next (arm_trees done)
          (tree made.pat) c.loop-arm.invariant.made c.in_ok-made.ensures.made);
    }

pub returns-clause-shown : goal.returns-clause-shown
returns-clause-shown c =
    let table = c.args.table.now in
    let arms = c.args.arms.now in
    let enough : length arms ≤ c.loop-arm.arm-index = omega arith in
    rw c.place_list.ensures (subst (λ (xs : List Arm). Each (IsArmShown table (table_type table c.args.ty))
    (map arm_view xs) (map plain_arm c.loop-arm.checked.items))
    (take_all c.loop-arm.arm-index arms enough) c.loop-arm.invariant.shown)
