use Rattle.decl_syntax.specs.Units.{left}
use Rattle.decl_syntax.specs.Patterns.{pattern_view}
use Rattle.decl_syntax.specs.PatternGrammar.{SpellsPattern}
use Rattle.decl_syntax.specs.PatternReading.{pattern_at}
use Rattle.decl_syntax.proofs.Joined.{gives_found, gives_none}
use Rattle.decl_syntax.proofs.PatternLaws.{patterns}
use Rattle.decl_syntax.proofs.pattern.read_pattern.Goals as goal

pub returns-clause-found : goal.returns-clause-found
returns-clause-found c = gives_found SpellsPattern pattern_at patterns (λ x. (pattern_view x.0, left x.1)) (left c.args.at) c.pattern_at.result c.pattern_at.ensures

pub returns-clause-none : goal.returns-clause-none
returns-clause-none c = gives_none SpellsPattern pattern_at patterns (λ x. (pattern_view x.0, left x.1)) (left c.args.at) c.pattern_at.result c.pattern_at.ensures
