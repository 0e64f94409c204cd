-- No meaning: a reading of functions from left to right, which laws join to the grammar.
use Rattle.std.specs.Prelude.{ℕ, Bool, List, Option, Some, None, nat_eq, if◌then◌else◌}
use Rattle.std.specs.Cmp.Lexicographic.{pointwise}
use Rattle.decl_lexer.specs.declared.marks.Mark.TheVariants as marks
use Rattle.decl_lexer.specs.declared.words.Word.TheVariants as words
use Rattle.decl_lexer.specs.Lexing.{Placed}
use Rattle.decl_syntax.specs.Units.{behind, flag_at, token_at, name_of, from_of, is_mark, is_word}
use Rattle.decl_syntax.specs.Reading.{◌>>=◌, either, Read}
use Rattle.decl_syntax.specs.TypeReading.{type_at}
use Rattle.decl_parser.specs.declared.runs.Until.TheVariants as until
use Rattle.decl_parser.specs.RunReading.{run_at}
use Rattle.decl_parser.specs.ArmReading.{arms_at}
use Rattle.decl_parser.specs.FunctionGrammar.{Parameter, Scrutinee, BodyTree}

-- a parameter
unfoldable pub parameter_at : List Placed → Read Parameter
parameter_at ts =
    behind (is_mark marks.OpenRound) ts >>= λ us. token_at name_of (flag_at (is_word words.Mut) us).1 >>= λ n. behind (is_mark marks.Colon) n.1 >>= λ vs.
    type_at 64 vs >>= λ t. behind (is_mark marks.CloseRound) (flag_at (is_mark marks.Comma) t.1).1 >>= λ rest. Some (record { name = n.0; type = t.0 }, rest)

-- the tokens behind what is returned
unfoldable pub returned_at : List Placed → Option (List Placed)
returned_at ts = either (behind (is_mark marks.ThinArrow) ts) (λ us. run_at until.Block us) (Some ts)

-- a scrutinee
unfoldable pub scrutinee_at : List Placed → Read Scrutinee
scrutinee_at ts =
    behind (is_word words.Match) ts >>= λ us.
    either (behind (is_mark marks.Star) us) (λ vs. token_at name_of vs >>= λ n. Some (record { deref = Some (from_of us); name = n.0 }, n.1))
    (token_at name_of us >>= λ n. Some (record { deref = None; name = n.0 }, n.1))

-- whether two texts are the same
abbrev pub same_text : List ℕ → List ℕ → Bool
same_text = pointwise nat_eq

-- the scrutinee, which is to be of this name, and the tokens behind the "{" that follows it
unfoldable pub head_at : List ℕ → List Placed → Read (Option ℕ)
head_at name ts =
    behind (is_mark marks.OpenCurly) ts >>= λ us. scrutinee_at us >>= λ s.
    if same_text s.0.name name then (behind (is_mark marks.OpenCurly) s.1 >>= λ rest. Some (s.0.deref, rest)) else None

-- a function, from its "(" on
unfoldable pub function_at : List Placed → Read BodyTree
function_at ts =
    parameter_at ts >>= λ p. returned_at p.1 >>= λ us. head_at p.0.name us >>= λ h. arms_at h.1 >>= λ a. behind (is_mark marks.CloseCurly) a.1 >>= λ rest.
    Some (record { param = p.0.type; deref = h.0; arms = a.0 }, rest)
