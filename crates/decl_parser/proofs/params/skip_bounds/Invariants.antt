use Rattle.std.proofs.Common.{◌≡◌, List, length}
use Rattle.decl_lexer.specs.declared.marks.Mark.TheVariants as marks
use Rattle.decl_syntax.specs.Units.{left}
use Rattle.decl_syntax.specs.Reading.{parts_at}
use Rattle.decl_syntax.proofs.ListLemmas.{with_front}
use Rattle.decl_parser.specs.DeclarationReading.{lifetime_at, bounds_at}
use Rattle.decl_parser.proofs.params.skip_bounds.Given as goal

abbrev pub invariant-bounds : goal.invariant-bounds
invariant-bounds l = (front : List (Unit {0})) × (with_front front (parts_at marks.Plus lifetime_at (left l.rest)) ≡ bounds_at (left l.at))

abbrev pub decreases-bounds : goal.decreases-bounds
decreases-bounds l = length (left l.rest)
