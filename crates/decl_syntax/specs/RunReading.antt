-- No meaning: a reading of attributes from left to right, which laws join to the grammar.
use Rattle.std.specs.Prelude.{ℕ, List, [], ◌∷◌, Option, Some, None}
use Rattle.decl_lexer.specs.declared.marks.Mark.{Mark}
use Rattle.decl_lexer.specs.declared.marks.Mark.TheVariants as marks
use Rattle.decl_lexer.specs.Lexing.{Placed}
use Rattle.decl_syntax.specs.Units.{behind, is_mark, from_of}
use Rattle.decl_syntax.specs.Patterns.{AttrTree}
use Rattle.decl_syntax.specs.Runs.{part_of, behind_part, first_name, text_of}
use Rattle.decl_syntax.specs.Reading.{◌>>=◌, either, Read, many_at}

-- one token of a run, and what is read behind it; a run ends before a mark that closes nothing of it
abbrev pub run_step : (List Mark → Read (List Placed)) → Placed → List Placed → List Mark → Option (List Mark) → Read (List Placed)
run_step others t ts open_ (Some more_open) = others more_open >>= λ x. Some (t ∷ x.0, x.1)
run_step others t ts [] None = Some ([], t ∷ ts)
run_step others t ts (mark ∷ open_) None = None

-- a run
abbrev pub run_at : List Placed → List Mark → Read (List Placed)
run_at [] open_ = None
run_at (t ∷ ts) open_ = run_step (run_at ts) t ts open_ (behind_part (part_of t.lexeme) t.lexeme open_)

-- the first name of a run, and the tokens from its end on
unfoldable pub word_at : List Placed → Read (Option (List ℕ))
word_at ts = run_at ts [] >>= λ x. Some (first_name x.0, x.1)

-- an attribute
unfoldable pub attribute_at : List Placed → Read AttrTree
attribute_at ts =
    behind (is_mark marks.Hash) ts >>= λ us. behind (is_mark marks.OpenSquare) us >>= λ vs.
    either (behind (is_mark marks.CloseSquare) vs) (λ rest. None)
    (word_at vs >>= λ x. behind (is_mark marks.CloseSquare) x.1 >>= λ rest. Some (record { from = from_of ts; word = text_of x.0 }, rest))

-- attributes one after the other
unfoldable pub attributes_at : List Placed → Read (List AttrTree)
attributes_at ts = many_at marks.Hash attribute_at ts
