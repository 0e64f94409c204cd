use Rattle.std.proofs.Common.{map}
use Rattle.decl_syntax.specs.Units.{left}
use Rattle.decl_syntax.specs.Patterns.{attr_view}
use Rattle.decl_syntax.proofs.RunLaws.{attributes_are_found, attributes_are_none}
use Rattle.decl_syntax.proofs.attributes.read_attributes.Goals as goal

pub returns-clause-found : goal.returns-clause-found
returns-clause-found c = attributes_are_found (λ x. (map attr_view x.0.items, left x.1)) (left c.args.at) c.attributes_at.result c.attributes_at.ensures

pub returns-clause-none : goal.returns-clause-none
returns-clause-none c = attributes_are_none (λ x. (map attr_view x.0.items, left x.1)) (left c.args.at) c.attributes_at.result c.attributes_at.ensures
