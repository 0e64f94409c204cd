use Rattle.std.proofs.Common.{refl}
use Rattle.decl_syntax.specs.Patterns.{pattern_view}
use Rattle.type_table.specs.Tables.{table_type}
use Rattle.pattern_elaboration.proofs.ArmLists.{arm_pattern}
use Rattle.pattern_elaboration.proofs.top.checked_arm.Goals as goal

pub returns-clause-shown : goal.returns-clause-shown
returns-clause-shown c = record {
  guard = refl;
  pattern = arm_pattern c.args.table.now (table_type c.args.table.now c.args.ty) (pattern_view c.args.arm.now.pat)
      c.in_ok-pattern.pattern c.in_ok-pat.pat (c.in_ok-pat.ensures.stands (table_type c.args.table.now))
      c.in_ok-pattern.ensures.shown;
}

pub returns-clause-made : goal.returns-clause-made
returns-clause-made c = c.in_ok-pat.ensures.made c.args.table.now c.args.next.now c.in_ok-pattern.ensures.made
