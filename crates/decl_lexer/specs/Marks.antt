-- The marks and their texts, as the Rust Reference lists punctuation, the longest first; `_` is a name that stands alone.
use Rattle.std.specs.Prelude.{ℕ, List, [], ◌∷◌, take, drop, Option, Some, None}
use Rattle.std.specs.Option.{option_map_or}
use Rattle.decl_lexer.specs.Begins.{Begins, Marked, token, breaks}
use Rattle.decl_lexer.specs.Tables.{with_text}
use lib.Chars.{codes}
use Rattle.decl_lexer.specs.declared.marks.Mark.{Mark}
use Rattle.decl_lexer.specs.declared.marks.Mark.TheVariants.{ShiftLeftAssign, ShiftRightAssign, ThreeDots, DotsEqual, PathSeparator, ThinArrow, LeftArrow, FatArrow, Equal, NotEqual, LessOrEqual, GreaterOrEqual, And, Or, PlusAssign, MinusAssign, TimesAssign, DivideAssign, RemainderAssign, CaretAssign, AmpersandAssign, BarAssign, ShiftLeft, ShiftRight, TwoDots, Plus, Minus, Star, Slash, Percent, Caret, Bang, Ampersand, Bar, Assign, Less, Greater, At, Dot, Comma, Semicolon, Colon, Hash, Dollar, Question, Tilde, OpenRound, CloseRound, OpenSquare, CloseSquare, OpenCurly, CloseCurly}

-- the marks of three characters
abbrev pub marks_of_three : List (List ℕ × Mark)
marks_of_three =
    (codes "<<=", ShiftLeftAssign) ∷
    (codes ">>=", ShiftRightAssign) ∷
    (codes "...", ThreeDots) ∷
    (codes "..=", DotsEqual) ∷ []

-- the mark that these three characters are
abbrev pub mark_of_three : ℕ → ℕ → ℕ → Option Mark
mark_of_three a b c = with_text marks_of_three (a ∷ b ∷ c ∷ [])

-- the marks of two characters
abbrev pub marks_of_two : List (List ℕ × Mark)
marks_of_two =
    (codes "::", PathSeparator) ∷
    (codes "->", ThinArrow) ∷
    (codes "<-", LeftArrow) ∷
    (codes "=>", FatArrow) ∷
    (codes "==", Equal) ∷
    (codes "!=", NotEqual) ∷
    (codes "<=", LessOrEqual) ∷
    (codes ">=", GreaterOrEqual) ∷
    (codes "&&", And) ∷
    (codes "||", Or) ∷
    (codes "+=", PlusAssign) ∷
    (codes "-=", MinusAssign) ∷
    (codes "*=", TimesAssign) ∷
    (codes "/=", DivideAssign) ∷
    (codes "%=", RemainderAssign) ∷
    (codes "^=", CaretAssign) ∷
    (codes "&=", AmpersandAssign) ∷
    (codes "|=", BarAssign) ∷
    (codes "<<", ShiftLeft) ∷
    (codes ">>", ShiftRight) ∷
    (codes "..", TwoDots) ∷ []

-- the mark that these two characters are
abbrev pub mark_of_two : ℕ → ℕ → Option Mark
mark_of_two a b = with_text marks_of_two (a ∷ b ∷ [])

-- the marks of one character
abbrev pub marks_of_one : List (List ℕ × Mark)
marks_of_one =
    (codes "+", Plus) ∷
    (codes "-", Minus) ∷
    (codes "*", Star) ∷
    (codes "/", Slash) ∷
    (codes "%", Percent) ∷
    (codes "^", Caret) ∷
    (codes "!", Bang) ∷
    (codes "&", Ampersand) ∷
    (codes "|", Bar) ∷
    (codes "=", Assign) ∷
    (codes "<", Less) ∷
    (codes ">", Greater) ∷
    (codes "@", At) ∷
    (codes ".", Dot) ∷
    (codes ",", Comma) ∷
    (codes ";", Semicolon) ∷
    (codes ":", Colon) ∷
    (codes "#", Hash) ∷
    (codes "$", Dollar) ∷
    (codes "?", Question) ∷
    (codes "~", Tilde) ∷
    (codes "(", OpenRound) ∷
    (codes ")", CloseRound) ∷
    (codes "[", OpenSquare) ∷
    (codes "]", CloseSquare) ∷
    (codes "{", OpenCurly) ∷
    (codes "}", CloseCurly) ∷ []

-- the mark that this character is
abbrev pub mark_of_one : ℕ → Option Mark
mark_of_one a = with_text marks_of_one (a ∷ [])

-- the first value that is there
abbrev pub or_else : {A : Type 0} → Option A → Option A → Option A
or_else None o = o
or_else (Some x) o = Some x

-- the mark that the first n characters are, and what stands behind it
abbrev pub mark_of_len : ℕ → List (List ℕ × Mark) → List ℕ → Option (Mark × List ℕ)
mark_of_len n marks cs = option_map_or (λ mark. Some (mark, drop n cs)) (with_text marks (take n cs)) None

-- the longest mark that a text begins with
abbrev pub longest_mark : List ℕ → Option (Mark × List ℕ)
longest_mark cs = or_else (mark_of_len 3 marks_of_three cs) (or_else (mark_of_len 2 marks_of_two cs) (mark_of_len 1 marks_of_one cs))

-- a mark at the start of the text; rule 2 where there is none
abbrev pub mark_at : List ℕ → Begins
mark_at text = option_map_or (λ found. token (Marked found.0) found.1) (longest_mark text) (breaks 2 text)
