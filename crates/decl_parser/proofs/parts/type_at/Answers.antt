use Rattle.decl_syntax.specs.Units.{left}
use Rattle.decl_syntax.specs.Types.{type_view}
use Rattle.decl_syntax.specs.TypeGrammar.{SpellsType}
use Rattle.decl_syntax.specs.TypeReading.{type_at}
use Rattle.decl_syntax.proofs.TypeLaws.{known_types}
use Rattle.decl_parser.proofs.PartLemmas.{joined_reads, gives_read}
use Rattle.decl_parser.proofs.parts.type_at.Goals as goal

pub returns : goal.returns
returns c =
    gives_read (SpellsType 64) (type_at 64) (joined_reads (SpellsType 64) (type_at 64) (known_types 64).joined) (λ x. (type_view x.0, left x.1)) (left c.args.at) c.read_type.result c.read_type.ensures.found c.read_type.ensures.none
