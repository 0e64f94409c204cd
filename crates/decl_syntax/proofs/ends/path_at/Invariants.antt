use Rattle.std.proofs.Common.{◌≡◌, List, map, length}
use Rattle.std.specs.Rc.{rc_str_bytes}
use Rattle.decl_lexer.specs.declared.marks.Mark.TheVariants as marks
use Rattle.decl_syntax.specs.Units.{left, token_at}
use Rattle.decl_syntax.specs.Reading.{parts_at}
use Rattle.decl_syntax.specs.EndGrammar.{Segment}
use Rattle.decl_syntax.specs.EndReading.{segment_of, segments_at}
use Rattle.decl_syntax.specs.EndGrammar.{names_of, all_names}
use Rattle.decl_syntax.proofs.ListLemmas.{with_front}
use Rattle.decl_syntax.proofs.ends.path_at.Given as goal

abbrev pub invariant-parts : goal.invariant-parts
invariant-parts l =
    (front : List Segment) × (names_of front ≡ map rc_str_bytes l.names.items) × (all_names front ≡ l.plain)
    × (with_front front (parts_at marks.PathSeparator (token_at segment_of) (left l.rest)) ≡ segments_at (left l.at))

abbrev pub decreases-parts : goal.decreases-parts
decreases-parts l = length (left l.rest)
