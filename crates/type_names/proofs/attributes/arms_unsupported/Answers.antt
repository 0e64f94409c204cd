use Rattle.std.proofs.Common.{sym, ◌∙◌}
use Rattle.decl_syntax.specs.Items.{arm_view}
use Rattle.type_names.proofs.ItemTests.{any_found}
use Rattle.type_names.proofs.attributes.arms_unsupported.Goals as goal

pub returns-then-arm_unsupported : goal.returns-then-arm_unsupported
returns-then-arm_unsupported c =
    any_found arm_view _ c.args.arms.now c.loop-arm.arm-index c.arm-item.result c.loop-arm-test.true c.arm-item.is (sym c.arm_unsupported.ensures ∙ c.if-arm_unsupported.true)
