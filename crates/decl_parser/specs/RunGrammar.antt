-- Runs: tokens that are skipped, whose brackets pair up, up to a token that ends them (Rust Reference,
-- Macros, whose token trees these are; where they end is our own choice).
use Rattle.std.specs.Prelude.{◌≡◌, Bool, true, false, ◌||◌, List, [], ◌∷◌, ◌++◌}
use Rattle.decl_lexer.specs.declared.marks.Mark.{Mark}
use Rattle.decl_lexer.specs.declared.marks.Mark.TheVariants as marks
use Rattle.decl_lexer.specs.Begins.{Lexeme}
use Rattle.decl_lexer.specs.Lexing.{Placed}
use Rattle.decl_syntax.specs.Units.{first_passes, is_mark}
use Rattle.decl_syntax.specs.Runs.{Part, Closes, part_of, pairs_up}
use Rattle.decl_parser.specs.declared.runs.Until.{Until}
use Rattle.decl_parser.specs.declared.runs.Until.TheVariants as until

-- whether a token outside all brackets ends a run of this kind
abbrev pub stops : Until → Lexeme → Bool
stops until.Bracket t = false
stops until.Block t = is_mark marks.OpenCurly t
stops until.Arrow t = is_mark marks.FatArrow t
stops until.Comma t = is_mark marks.Comma t
stops until.CommaOrArrow t = is_mark marks.Comma t || is_mark marks.FatArrow t

-- whether a token closes a bracket
abbrev pub closes : Part → Bool
closes Closes = true
closes _ = false

-- whether a run ends before this token
abbrev pub ends_run : Until → Lexeme → Bool
ends_run stop t = stops stop t || closes (part_of t)

-- none of these tokens ends the run where it stands outside all brackets, that is, where those before it pair up; the marks close what was open before them
abbrev pub NoneOutside : Until → List Placed → List Mark → Type 0
NoneOutside stop run open_ = (front back : List Placed) (t : Placed) → run ≡ front ++ t ∷ back → pairs_up front open_ ≡ true → stops stop t.lexeme ≡ false

-- a run: one token or more, whose brackets pair up; outside of them none ends it, and one that does, or a closing bracket, stands behind it
pub data SpellsRun (stop : Until) : List Placed → List Placed → Type 0 where
  spelled : (first : Placed) (run rest : List Placed) → pairs_up (first ∷ run) [] ≡ true → NoneOutside stop (first ∷ run) []
      → first_passes (ends_run stop) rest ≡ true → SpellsRun stop (first ∷ run ++ rest) rest

-- tokens begin with at most one run of a kind
abbrev pub OneRun : Type 0
OneRun = (stop : Until) (ts us vs : List Placed) → SpellsRun stop ts us → SpellsRun stop ts vs → us ≡ vs
