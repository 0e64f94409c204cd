use Rattle.decl_syntax.specs.PatternGrammar.{SpellsPattern}
use Rattle.decl_syntax.specs.PatternReading.{pattern_at}
use Rattle.decl_syntax.proofs.Joined.{one_reading}
use Rattle.decl_syntax.proofs.PatternLaws.{patterns}
use Rattle.decl_syntax.proofs.laws.one_pattern.Goals as goal

pub returns : goal.returns
returns c = one_reading SpellsPattern pattern_at patterns
