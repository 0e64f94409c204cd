-- No meaning: a reading of runs from left to right, which laws join to the grammar.
use Rattle.std.specs.Prelude.{Bool, true, false, ◌&&◌, List, [], ◌∷◌, Option, Some, None, if◌then◌else◌}
use Rattle.decl_lexer.specs.declared.marks.Mark.{Mark}
use Rattle.decl_lexer.specs.Lexing.{Placed}
use Rattle.decl_syntax.specs.Units.{first_passes}
use Rattle.decl_syntax.specs.Runs.{part_of, behind_part}
use Rattle.decl_parser.specs.declared.runs.Until.{Until}
use Rattle.decl_parser.specs.RunGrammar.{stops, ends_run}

-- whether no bracket is open
abbrev pub outside : List Mark → Bool
outside [] = true
outside (mark ∷ open_) = false

-- what is read behind one token; the reading ends before a mark that closes nothing of it
abbrev pub skip_step : (List Mark → Option (List Placed)) → List Placed → List Mark → Option (List Mark) → Option (List Placed)
skip_step others ts open_ (Some more_open) = others more_open
skip_step others ts [] None = Some ts
skip_step others ts (mark ∷ open_) None = None

-- the tokens from the one on that ends a run, where these marks are still to come
abbrev pub skip_from : Until → List Placed → List Mark → Option (List Placed)
skip_from stop [] open_ = None
skip_from stop (t ∷ ts) open_ =
    if outside open_ && stops stop t.lexeme then Some (t ∷ ts) else skip_step (skip_from stop ts) (t ∷ ts) open_ (behind_part (part_of t.lexeme) t.lexeme open_)

-- the same, with nothing open
unfoldable pub skip_at : Until → List Placed → Option (List Placed)
skip_at stop ts = skip_from stop ts []

-- the tokens behind a run, which is not empty
unfoldable pub run_at : Until → List Placed → Option (List Placed)
run_at stop ts = if first_passes (ends_run stop) ts then None else skip_at stop ts
