use Rattle.std.proofs.Common.{◌≡◌, map, length}
use Rattle.decl_lexer.specs.declared.marks.Mark.TheVariants as marks
use Rattle.decl_syntax.specs.Units.{left}
use Rattle.decl_syntax.specs.Patterns.{attr_view}
use Rattle.decl_syntax.specs.Reading.{many_at}
use Rattle.decl_syntax.specs.RunReading.{attribute_at, attributes_at}
use Rattle.decl_syntax.proofs.ListLemmas.{with_front}
use Rattle.decl_syntax.proofs.attributes.attributes_at.Given as goal

abbrev pub invariant-found : goal.invariant-found
invariant-found l = with_front (map attr_view l.found.items) (many_at marks.Hash attribute_at (left l.rest)) ≡ attributes_at (left l.at)

abbrev pub decreases-found : goal.decreases-found
decreases-found l = length (left l.rest)
