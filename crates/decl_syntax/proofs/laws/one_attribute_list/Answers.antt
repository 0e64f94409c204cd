use Rattle.decl_syntax.proofs.RunLaws.{one_list}
use Rattle.decl_syntax.proofs.laws.one_attribute_list.Goals as goal

pub returns : goal.returns
returns c = one_list
