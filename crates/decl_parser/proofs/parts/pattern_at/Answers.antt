use Rattle.decl_syntax.specs.Units.{left}
use Rattle.decl_syntax.specs.Patterns.{pattern_view}
use Rattle.decl_syntax.specs.PatternGrammar.{SpellsPattern}
use Rattle.decl_syntax.specs.PatternReading.{pattern_at}
use Rattle.decl_syntax.proofs.PatternLaws.{patterns}
use Rattle.decl_parser.proofs.PartLemmas.{joined_reads, gives_read}
use Rattle.decl_parser.proofs.parts.pattern_at.Goals as goal

pub returns : goal.returns
returns c =
    gives_read SpellsPattern pattern_at (joined_reads SpellsPattern pattern_at patterns) (λ x. (pattern_view x.0, left x.1)) (left c.args.at) c.read_pattern.result c.read_pattern.ensures.found c.read_pattern.ensures.none
