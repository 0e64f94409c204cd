use Rattle.type_names.specs.Views.{means_in}
use Rattle.type_names.proofs.type_rules.breaks_here.Goals as goal

pub returns-in-UnknownType : goal.returns-in-UnknownType
returns-in-UnknownType c = rw c.in-UnknownType.is (c.is_unknown.ensures c.args.sized)

pub returns-in-ArrayLength : goal.returns-in-ArrayLength
returns-in-ArrayLength c = rw c.in-ArrayLength.is (c.is_long.ensures (means_in c.args.names.now) c.args.sized)

pub returns-in-ArgumentCount : goal.returns-in-ArgumentCount
returns-in-ArgumentCount c = rw c.in-ArgumentCount.is (c.is_miscounted.ensures c.args.sized)
