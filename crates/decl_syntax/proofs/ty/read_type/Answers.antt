use Rattle.decl_syntax.specs.Units.{left}
use Rattle.decl_syntax.specs.Types.{type_view}
use Rattle.decl_syntax.specs.TypeGrammar.{SpellsType}
use Rattle.decl_syntax.specs.TypeReading.{type_at}
use Rattle.decl_syntax.proofs.Joined.{gives_found, gives_none}
use Rattle.decl_syntax.proofs.TypeLaws.{known_types}
use Rattle.decl_syntax.proofs.ty.read_type.Goals as goal

pub returns-clause-found : goal.returns-clause-found
returns-clause-found c = gives_found (SpellsType 64) (type_at 64) (known_types 64).joined (λ x. (type_view x.0, left x.1)) (left c.args.at) c.type_at.result c.type_at.ensures

pub returns-clause-none : goal.returns-clause-none
returns-clause-none c = gives_none (SpellsType 64) (type_at 64) (known_types 64).joined (λ x. (type_view x.0, left x.1)) (left c.args.at) c.type_at.result c.type_at.ensures
