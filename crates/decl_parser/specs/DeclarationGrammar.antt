-- What declarations are spelled by, a case for each form of docs/grammar.md (Rust Reference, Items, and Visibility and
-- privacy).
use Rattle.std.specs.Prelude.{◌≡◌, ℕ, Bool, true, false, List, ◌∷◌, Option, Some, None}
use Rattle.decl_lexer.specs.declared.marks.Mark.{Mark}
use Rattle.decl_lexer.specs.declared.marks.Mark.TheVariants as marks
use Rattle.decl_lexer.specs.declared.words.Word.{Word}
use Rattle.decl_lexer.specs.declared.words.Word.TheVariants as words
use Rattle.decl_lexer.specs.Begins as lexemes
use Rattle.decl_lexer.specs.Begins.{Lexeme, Keyword}
use Rattle.decl_lexer.specs.Lexing.{Placed}
use Rattle.decl_syntax.specs.Units.{behind, first_passes, is_mark, is_word}
use Rattle.decl_syntax.specs.Types.{TypeTree}
use Rattle.decl_syntax.specs.Patterns.{AttrTree}
use Rattle.decl_syntax.specs.Grammar.{IsMark, IsWord, NextIsNot, CommaList, Separated}
use Rattle.decl_syntax.specs.Runs.{SpellsAttributes}
use Rattle.decl_syntax.specs.TypeGrammar.{SpellsType}
use Rattle.decl_parser.specs.declared.runs.Until.TheVariants as until
use Rattle.decl_parser.specs.RunGrammar.{SpellsRun}
use Rattle.decl_syntax.specs.Items as trees
use Rattle.decl_syntax.specs.Items.{FieldItem, FormTree, Tuple, Brace, VariantTree}

-- a lifetime, which leaves nothing
pub data SpellsLifetime : List Placed → Unit {0} → List Placed → Type 0 where
  a_lifetime : (t : Placed) (rest : List Placed) → t.lexeme ≡ lexemes.Lifetime → SpellsLifetime (t ∷ rest) tt rest

-- LIFETIME [":" LIFETIME ("+" LIFETIME)*], which leaves nothing
pub data SpellsParam : List Placed → Unit {0} → List Placed → Type 0 where
  free : (ts rest : List Placed) → SpellsLifetime ts tt rest → NextIsNot (is_mark marks.Colon) rest → SpellsParam ts tt rest
  bounded : (ts us rest : List Placed) (colon : Placed) (bounds : List (Unit {0})) → SpellsLifetime ts tt (colon ∷ us) → IsMark marks.Colon colon
      → Separated marks.Plus SpellsLifetime us bounds rest → SpellsParam ts tt rest

-- ["<" params ">"], and whether they are there
pub data SpellsParams : List Placed → Bool → List Placed → Type 0 where
  no_params : (ts : List Placed) → NextIsNot (is_mark marks.Less) ts → SpellsParams ts false ts
  params : (less : Placed) (ts rest : List Placed) (all : List (Unit {0})) → IsMark marks.Less less → CommaList marks.Greater SpellsParam ts all rest
      → SpellsParams (less ∷ ts) true rest

-- the words that stand alone between the brackets of a visibility
abbrev pub is_scope : Lexeme → Bool
is_scope (Keyword words.Crate) = true
is_scope (Keyword words.SelfValue) = true
is_scope (Keyword words.Super) = true
is_scope _ = false

-- the words that begin what stands between those brackets
abbrev pub begins_scope : Lexeme → Bool
begins_scope (Keyword words.Crate) = true
begins_scope (Keyword words.SelfValue) = true
begins_scope (Keyword words.Super) = true
begins_scope (Keyword words.In) = true
begins_scope _ = false

-- whether "(" and such a word come next
abbrev pub restricts : Option (List Placed) → Bool
restricts None = false
restricts (Some ts) = first_passes begins_scope ts

-- ["pub" ["(" ("crate" | "self" | "super" | "in" run) ")"]], and whether it is there
pub data SpellsVisibility : List Placed → Bool → List Placed → Type 0 where
  -- nothing
  private : (ts : List Placed) → NextIsNot (is_word words.Pub) ts → SpellsVisibility ts false ts
  -- "pub", and no restriction behind it
  public : (word : Placed) (ts : List Placed) → IsWord words.Pub word → restricts (behind (is_mark marks.OpenRound) ts) ≡ false → SpellsVisibility (word ∷ ts) true ts
  -- "pub" "(" ("crate" | "self" | "super") ")"
  public_in_scope : (word opening scope closing : Placed) (rest : List Placed) → IsWord words.Pub word → IsMark marks.OpenRound opening
      → is_scope scope.lexeme ≡ true → IsMark marks.CloseRound closing → SpellsVisibility (word ∷ opening ∷ scope ∷ closing ∷ rest) true rest
  -- "pub" "(" "in" run ")"
  public_in_path : (word opening within closing : Placed) (ts rest : List Placed) → IsWord words.Pub word → IsMark marks.OpenRound opening
      → IsWord words.In within → SpellsRun until.Bracket ts (closing ∷ rest) → IsMark marks.CloseRound closing
      → SpellsVisibility (word ∷ opening ∷ within ∷ ts) true rest

-- what stands before the type of a field: NAME ":" in a brace form, nothing in a tuple form
pub data FieldLabel : Bool → List Placed → Option (List ℕ) → List Placed → Type 0 where
  no_label : (ts : List Placed) → FieldLabel false ts None ts
  label : (word colon : Placed) (rest : List Placed) (name : List ℕ) (raw : Bool) → word.lexeme ≡ lexemes.Named name raw → IsMark marks.Colon colon
      → FieldLabel true (word ∷ colon ∷ rest) (Some name) rest

-- attr* [vis] type in a tuple form, attr* [vis] NAME ":" type in a brace form
pub data SpellsField (braced : Bool) : List Placed → FieldItem → List Placed → Type 0 where
  field : (ts us vs ws rest : List Placed) (attrs : List AttrTree) (public : Bool) (name : Option (List ℕ)) (type : TypeTree) → SpellsAttributes ts attrs us
      → SpellsVisibility us public vs → FieldLabel braced vs name ws → SpellsType 64 ws type rest
      → SpellsField braced ts (record { name = name; attrs = attrs; type = type }) rest

-- the bracket that closes a brace form, or a tuple form
abbrev pub closing : Bool → Mark
closing true = marks.CloseCurly
closing false = marks.CloseRound

-- ["(" fields ")" | "{" fields "}"]
pub data SpellsForm : List Placed → FormTree → List Placed → Type 0 where
  unit_form : (ts : List Placed) → NextIsNot (is_mark marks.OpenRound) ts → NextIsNot (is_mark marks.OpenCurly) ts → SpellsForm ts trees.Unit ts
  tuple_form : (opening : Placed) (ts rest : List Placed) (fields : List FieldItem) → IsMark marks.OpenRound opening
      → CommaList marks.CloseRound (SpellsField false) ts fields rest → SpellsForm (opening ∷ ts) (Tuple fields) rest
  brace_form : (opening : Placed) (ts rest : List Placed) (fields : List FieldItem) → IsMark marks.OpenCurly opening
      → CommaList marks.CloseCurly (SpellsField true) ts fields rest → SpellsForm (opening ∷ ts) (Brace fields) rest

-- ["=" run], and whether it is there
pub data SpellsNumber : List Placed → Bool → List Placed → Type 0 where
  no_number : (ts : List Placed) → NextIsNot (is_mark marks.Assign) ts → SpellsNumber ts false ts
  number : (equal : Placed) (ts rest : List Placed) → IsMark marks.Assign equal → SpellsRun until.Comma ts rest → SpellsNumber (equal ∷ ts) true rest

-- attr* NAME ["(" fields ")" | "{" fields "}"] ["=" run]
pub data SpellsVariant : List Placed → VariantTree → List Placed → Type 0 where
  variant : (ts us vs rest : List Placed) (word : Placed) (attrs : List AttrTree) (name : List ℕ) (raw : Bool) (form : FormTree) (numbered : Bool)
      → SpellsAttributes ts attrs (word ∷ us) → word.lexeme ≡ lexemes.Named name raw → SpellsForm us form vs → SpellsNumber vs numbered rest
      → SpellsVariant ts (record { name = name; attrs = attrs; form = form }) rest

-- whether ";" ends a struct of this form
abbrev pub ends_in_semicolon : FormTree → Bool
ends_in_semicolon trees.Unit = true
ends_in_semicolon (Tuple fields) = true
ends_in_semicolon (Brace fields) = false

-- ";" | "(" fields ")" ";" | "{" fields "}"
pub data SpellsStructForm : List Placed → FormTree → List Placed → Type 0 where
  ended : (ts rest : List Placed) (form : FormTree) (semicolon : Placed) → SpellsForm ts form (semicolon ∷ rest) → ends_in_semicolon form ≡ true
      → IsMark marks.Semicolon semicolon → SpellsStructForm ts form rest
  braced : (ts rest : List Placed) (form : FormTree) → SpellsForm ts form rest → ends_in_semicolon form ≡ false → SpellsStructForm ts form rest

-- the keyword of an item, NAME [params]
pub data SpellsHead (keyword : Word) : List Placed → List ℕ → List Placed → Type 0 where
  head : (first word : Placed) (ts rest : List Placed) (name : List ℕ) (raw : Bool) (given : Bool) → IsWord keyword first
      → word.lexeme ≡ lexemes.Named name raw → SpellsParams ts given rest → SpellsHead keyword (first ∷ word ∷ ts) name rest

-- a name
pub data SpellsName : List Placed → List ℕ → List Placed → Type 0 where
  a_name : (word : Placed) (rest : List Placed) (name : List ℕ) (raw : Bool) → word.lexeme ≡ lexemes.Named name raw → SpellsName (word ∷ rest) name rest

-- "*" | "{" names "}"
pub data SpellsNames : List Placed → Option (List (List ℕ)) → List Placed → Type 0 where
  all_names : (star : Placed) (rest : List Placed) → IsMark marks.Star star → SpellsNames (star ∷ rest) None rest
  some_names : (opening : Placed) (ts rest : List Placed) (names : List (List ℕ)) → IsMark marks.OpenCurly opening
      → CommaList marks.CloseCurly SpellsName ts names rest → SpellsNames (opening ∷ ts) (Some names) rest
