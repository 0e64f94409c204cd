use Rattle.std.proofs.Common.{map}
use Rattle.decl_syntax.specs.Units.{left}
use Rattle.decl_syntax.specs.Patterns.{attr_view}
use Rattle.decl_syntax.specs.Runs.{SpellsAttributes}
use Rattle.decl_syntax.specs.RunReading.{attributes_at}
use Rattle.decl_parser.proofs.PartLemmas.{attributes_read, gives_read}
use Rattle.decl_parser.proofs.parts.attributes_at.Goals as goal

pub returns : goal.returns
returns c =
    gives_read SpellsAttributes attributes_at attributes_read (λ x. (map attr_view x.0.items, left x.1)) (left c.args.at) c.read_attributes.result c.read_attributes.ensures.found c.read_attributes.ensures.none
