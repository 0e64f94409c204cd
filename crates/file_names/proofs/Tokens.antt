-- Each name token of a text has a name, also where `&&` and `>>` count as two marks.
use Rattle.std.proofs.Common.{ℕ, ◌+◌, List, [], ◌∷◌, ◌++◌, Option, Some, None, subst, chars}
use Rattle.decl_lexer.specs.declared.marks.Mark.{Mark}
use Rattle.decl_lexer.specs.Lexing.{Placed, width, First, End, Found, Broken, Finds, nothing, takes, fails, skips}
use Rattle.decl_lexer.specs.Lexing.{Lexes, ends, goes_on, without_mark, mark_width}
use Rattle.decl_syntax.specs.Units.{units, halves, doubled_mark}
use Rattle.match_model.specs.Lists.{Every}
use Rattle.file_names.specs.Items.{IsTokenNamed}
use Rattle.file_names.specs.Laws.{TokenNamesAreNames}
use Rattle.file_names.proofs.Pieces.{BeginsNamed, piece_named}

abbrev IsFirstNamed : First → Type 0
IsFirstNamed End = Unit {0}
IsFirstNamed (Found t rest) = IsTokenNamed t
IsFirstNamed (Broken rule place) = Unit {0}

first_named : (at : ℕ) (cs : List ℕ) (first : First) → Finds at cs first → IsFirstNamed first
first_named _ _ _ (nothing at) = tt
first_named _ _ _ (takes at c cs front rest lexeme e f) = subst BeginsNamed e (piece_named c cs)
first_named _ _ _ (fails at c cs front fault e f) = tt
first_named _ _ _ (skips at c cs front rest first e f more) = first_named (at + width (c ∷ front)) rest first more

tokens_named : (at : ℕ) (cs : List ℕ) (ts : List Placed) → Lexes at cs ts → Every IsTokenNamed ts
tokens_named _ _ _ (ends at cs f) = tt
tokens_named _ _ _ (goes_on at cs rest t ts f more) =
    (first_named at cs (Found t rest) f, tokens_named t.to rest ts more)

pub units_named : (ts : List Placed) → Every IsTokenNamed ts → Every IsTokenNamed (units ts)
unfolding units
units_named [] h = tt
units_named (t ∷ ts) h = by_mark (doubled_mark t.lexeme) (units_named ts h.1)
  where
    by_mark : (o : Option Mark) → Every IsTokenNamed (units ts) → Every IsTokenNamed (halves t o ++ units ts)
    by_mark None others = (h.0, others)
    by_mark (Some mark) others = (tt, (tt, others))

pub token_names_are_names : TokenNamesAreNames
token_names_are_names bytes tokens h =
    tokens_named (mark_width (chars bytes)) (without_mark (chars bytes)) tokens h.1
