use Rattle.decl_syntax.specs.TypeGrammar.{SpellsType}
use Rattle.decl_syntax.specs.TypeReading.{type_at}
use Rattle.decl_syntax.proofs.Joined.{one_reading}
use Rattle.decl_syntax.proofs.TypeLaws.{known_types}
use Rattle.decl_syntax.proofs.laws.one_type.Goals as goal

pub returns : goal.returns
returns c = one_reading (SpellsType 64) (type_at 64) (known_types 64).joined
