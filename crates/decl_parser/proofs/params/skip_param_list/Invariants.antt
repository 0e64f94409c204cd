use Rattle.std.proofs.Common.{◌≡◌, List, length}
use Rattle.decl_lexer.specs.declared.marks.Mark.TheVariants as marks
use Rattle.decl_syntax.specs.Units.{left}
use Rattle.decl_syntax.specs.Reading.{list_at}
use Rattle.decl_syntax.proofs.ListLemmas.{with_front}
use Rattle.decl_parser.specs.DeclarationReading.{param_at, param_list_at}
use Rattle.decl_parser.proofs.params.skip_param_list.Given as goal

abbrev pub invariant-params : goal.invariant-params
invariant-params l = (front : List (Unit {0})) × (with_front front (list_at marks.Greater param_at (left l.rest)) ≡ param_list_at (left l.at))

abbrev pub decreases-params : goal.decreases-params
decreases-params l = length (left l.rest)
