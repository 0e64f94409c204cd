use Rattle.std.proofs.Common.{◌≡◌, [], List, length}
use Rattle.std.specs.Rc.{rc_str_bytes}
use Rattle.std.specs.Prelude.{reverse, option_map}
use Rattle.decl_lexer.specs.Lexing.{Placed}
use Rattle.decl_syntax.specs.Units.{left}
use Rattle.decl_syntax.specs.Runs.{first_name}
use Rattle.decl_syntax.specs.RunReading.{run_at}
use Rattle.decl_syntax.proofs.ListLemmas.{with_front}
use Rattle.decl_syntax.proofs.attributes.word_at.Given as goal

abbrev pub invariant-tokens : goal.invariant-tokens
invariant-tokens l =
    (front : List Placed) × (first_name front ≡ option_map (λ s. rc_str_bytes s.now) l.word)
    × (with_front front (run_at (left l.rest) (reverse l.opened.items)) ≡ run_at (left l.at) [])

abbrev pub decreases-tokens : goal.decreases-tokens
decreases-tokens l = length (left l.rest)
