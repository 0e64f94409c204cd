-- What items are spelled by, a case for each kind of docs/grammar.md (Rust Reference, Items).
use Rattle.std.specs.Prelude.{◌≡◌, ℕ, Bool, List, [], ◌∷◌, Option}
use Rattle.decl_lexer.specs.declared.marks.Mark.TheVariants as marks
use Rattle.decl_lexer.specs.declared.words.Word.TheVariants as words
use Rattle.decl_lexer.specs.Begins as lexemes
use Rattle.decl_lexer.specs.Lexing.{Placed}
use Rattle.decl_syntax.specs.Units.{from_of}
use Rattle.decl_syntax.specs.Patterns.{AttrTree}
use Rattle.decl_syntax.specs.Grammar.{IsMark, IsWord, CommaList}
use Rattle.decl_syntax.specs.Runs.{SpellsAttributes}
use Rattle.decl_syntax.specs.Items as trees
use Rattle.decl_syntax.specs.Items.{FormTree, VariantTree, KindTree, ItemTree}
use Rattle.decl_parser.specs.DeclarationGrammar.{SpellsVisibility, SpellsVariant, SpellsStructForm, SpellsHead, SpellsNames}
use Rattle.decl_parser.specs.FunctionGrammar.{BodyTree, SpellsFunction}

-- the kinds of items
pub data SpellsKind : List Placed → KindTree → List Placed → Type 0 where
  -- "enum" NAME [params] "{" variants "}"
  an_enum : (ts us rest : List Placed) (opening : Placed) (name : List ℕ) (variants : List VariantTree) → SpellsHead words.Enum ts name (opening ∷ us)
      → IsMark marks.OpenCurly opening → CommaList marks.CloseCurly SpellsVariant us variants rest → SpellsKind ts (trees.Enum name variants) rest
  -- "struct" NAME [params] and its form
  a_struct : (ts us rest : List Placed) (name : List ℕ) (form : FormTree) → SpellsHead words.Struct ts name us → SpellsStructForm us form rest
      → SpellsKind ts (trees.Struct name form) rest
  -- "use" NAME "::" ("*" | "{" names "}") ";"
  an_import : (keyword owner separator semicolon : Placed) (ts rest : List Placed) (name : List ℕ) (raw : Bool) (names : Option (List (List ℕ)))
      → IsWord words.Use keyword → owner.lexeme ≡ lexemes.Named name raw → IsMark marks.PathSeparator separator → SpellsNames ts names (semicolon ∷ rest)
      → IsMark marks.Semicolon semicolon → SpellsKind (keyword ∷ owner ∷ separator ∷ ts) (trees.Import name names) rest
  -- "fn" NAME [params] and what stands behind it from its "(" on
  a_function : (ts us rest : List Placed) (name : List ℕ) (body : BodyTree) → SpellsHead words.Fn ts name us → SpellsFunction us body rest
      → SpellsKind ts (trees.Function name body.param body.deref body.arms) rest

-- attr* [vis] and a kind; the item begins with its first token
pub data SpellsItem : List Placed → ItemTree → List Placed → Type 0 where
  item : (ts us vs rest : List Placed) (attrs : List AttrTree) (public : Bool) (kind : KindTree) → SpellsAttributes ts attrs us → SpellsVisibility us public vs
      → SpellsKind vs kind rest → SpellsItem ts (record { from = from_of ts; attrs = attrs; kind = kind }) rest

-- items one after the other, and what stands behind them
pub data SpellsItems : List Placed → List ItemTree → List Placed → Type 0 where
  nothing : (ts : List Placed) → SpellsItems ts [] ts
  one_more : (ts us rest : List Placed) (first : ItemTree) (items : List ItemTree) → SpellsItem ts first us → SpellsItems us items rest
      → SpellsItems ts (first ∷ items) rest
