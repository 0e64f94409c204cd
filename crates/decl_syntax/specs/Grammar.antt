-- What the grammar of types and that of patterns share. Each relation says what tokens begin with and
-- what stands behind it. The forms of the relations are our own choice.
use Rattle.std.specs.Prelude.{◌≡◌, Bool, true, false, List, [], ◌∷◌}
use Rattle.decl_lexer.specs.declared.marks.Mark.{Mark}
use Rattle.decl_lexer.specs.declared.marks.Mark.TheVariants as marks
use Rattle.decl_lexer.specs.declared.words.Word.{Word}
use Rattle.decl_lexer.specs.Begins.{Lexeme, Keyword, Marked}
use Rattle.decl_lexer.specs.Lexing.{Placed}
use Rattle.decl_syntax.specs.declared.stop.Stop.{Stop}
use Rattle.decl_syntax.specs.declared.stop.Stop.TheVariants as stops
use Rattle.decl_syntax.specs.Units.{first_passes, is_mark}

-- tokens, what they begin with, and the tokens behind it
abbrev pub Spelling : Type 0 → Type 1
Spelling A = List Placed → A → List Placed → Type 0

-- memory ran out, or the tokens begin with nothing of this kind
abbrev pub NoneSpelled : {A : Type 0} → Spelling A → List Placed → Stop → Type 0
NoneSpelled P ts stops.Memory = Unit {0}
NoneSpelled {A} P ts stops.Syntax = (x : A) (rest : List Placed) → P ts x rest → ⊥

-- a token is this mark
abbrev pub IsMark : Mark → Placed → Type 0
IsMark mark t = t.lexeme ≡ Marked mark

-- a token is this keyword
abbrev pub IsWord : Word → Placed → Type 0
IsWord word t = t.lexeme ≡ Keyword word

-- no token that passes comes first
abbrev pub NextIsNot : (Lexeme → Bool) → List Placed → Type 0
NextIsNot passes ts = first_passes passes ts ≡ false

-- items with commas between them, an optional last comma, and the mark that closes the list
pub data CommaList {A : Type 0} (close : Mark) (Item : Spelling A) : List Placed → List A → List Placed → Type 0 where
  closed : (t : Placed) (rest : List Placed) → IsMark close t → CommaList close Item (t ∷ rest) [] rest
  last : (ts rest : List Placed) (x : A) (t : Placed) → Item ts x (t ∷ rest) → IsMark close t → CommaList close Item ts (x ∷ []) rest
  next : (ts us rest : List Placed) (x : A) (xs : List A) (t : Placed) → Item ts x (t ∷ us) → IsMark marks.Comma t
      → CommaList close Item us xs rest → CommaList close Item ts (x ∷ xs) rest

-- items with this mark between them; it does not follow the last one
pub data Separated {A : Type 0} (mark : Mark) (Item : Spelling A) : List Placed → List A → List Placed → Type 0 where
  only : (ts rest : List Placed) (x : A) → Item ts x rest → NextIsNot (is_mark mark) rest → Separated mark Item ts (x ∷ []) rest
  further : (ts us rest : List Placed) (x : A) (xs : List A) (t : Placed) → Item ts x (t ∷ us) → IsMark mark t
      → Separated mark Item us xs rest → Separated mark Item ts (x ∷ xs) rest

-- a token that may stand here, and whether it does
pub data Maybe (passes : Lexeme → Bool) : List Placed → Bool → List Placed → Type 0 where
  missing : (ts : List Placed) → NextIsNot passes ts → Maybe passes ts false ts
  there : (t : Placed) (ts : List Placed) → passes t.lexeme ≡ true → Maybe passes (t ∷ ts) true ts

-- items one after the other; the mark with which each begins does not follow
pub data Many {A : Type 0} (mark : Mark) (Item : Spelling A) : List Placed → List A → List Placed → Type 0 where
  no_more : (ts : List Placed) → NextIsNot (is_mark mark) ts → Many mark Item ts [] ts
  one_more : (t : Placed) (ts us rest : List Placed) (x : A) (xs : List A) → IsMark mark t → Item (t ∷ ts) x us → Many mark Item us xs rest
      → Many mark Item (t ∷ ts) (x ∷ xs) rest
