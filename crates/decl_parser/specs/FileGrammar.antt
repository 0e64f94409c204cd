-- What a file is spelled by, and the first fault of tokens that spell none (our own choice).
use Rattle.std.specs.Prelude.{◌≡◌, ℕ, true, false, List, [], ◌∷◌, length, ◌⊎◌}
use Rattle.decl_lexer.specs.declared.marks.Mark.TheVariants as marks
use Rattle.decl_lexer.specs.Lexing.{Placed}
use Rattle.decl_syntax.specs.Grammar.{IsMark}
use Rattle.decl_parser.specs.declared.runs.Until.TheVariants as until
use Rattle.decl_parser.specs.declared.file.ParseFault.{ParseFault}
use Rattle.decl_parser.specs.declared.file.ParseFault.TheVariants as faults
use Rattle.decl_parser.specs.RunGrammar.{SpellsRun}
use Rattle.decl_syntax.specs.Items.{ItemTree}
use Rattle.decl_parser.specs.ItemGrammar.{SpellsItem, SpellsItems}
use Rattle.decl_parser.specs.ItemWidths.{item_is_wide}

-- "#" "!" "[" run "]"
pub data SpellsFileAttribute : List Placed → List Placed → Type 0 where
  file_attribute : (hash bang opening closing : Placed) (ts rest : List Placed) → IsMark marks.Hash hash → IsMark marks.Bang bang
      → IsMark marks.OpenSquare opening → SpellsRun until.Bracket ts (closing ∷ rest) → IsMark marks.CloseSquare closing
      → SpellsFileAttribute (hash ∷ bang ∷ opening ∷ ts) rest

-- as many attributes of the file as are complete at its start, and what stands behind them
pub data SkipsAttributes : List Placed → List Placed → Type 0 where
  no_more : (ts : List Placed) → ((rest : List Placed) → SpellsFileAttribute ts rest → ⊥) → SkipsAttributes ts ts
  one_more : (ts us rest : List Placed) → SpellsFileAttribute ts us → SkipsAttributes us rest → SkipsAttributes ts rest

-- none of these items is too wide
abbrev pub AreNarrow : List ItemTree → Type 0
AreNarrow [] = Unit {0}
AreNarrow (item ∷ items) = (item_is_wide item ≡ false) × AreNarrow items

-- the tokens are attributes of the file and then these items to their end, none of them too wide
pub record IsFile (ts : List Placed) (items : List ItemTree) : Type 0 where
  pub start : List Placed
  pub head : SkipsAttributes ts start
  pub spelled : SpellsItems start items []
  pub narrow : AreNarrow items

-- behind the attributes of the file stand so many items, none of them too wide, and behind those something that begins at this byte
pub record StandsBehind (ts : List Placed) (number at : ℕ) : Type 0 where
  pub start : List Placed
  pub items : List ItemTree
  pub first : Placed
  pub rest : List Placed
  pub head : SkipsAttributes ts start
  pub spelled : SpellsItems start items (first ∷ rest)
  pub narrow : AreNarrow items
  pub counted : length items ≡ number
  pub placed : first.from ≡ at

-- what stands there begins with no item
pub record IsSyntaxFault (ts : List Placed) (number at : ℕ) : Type 0 where
  pub place : StandsBehind ts number at
  pub none : (item : ItemTree) (rest : List Placed) → SpellsItem (place.first ∷ place.rest) item rest → ⊥

-- what stands there begins with an item that is too wide
pub record IsWideFault (ts : List Placed) (number at : ℕ) : Type 0 where
  pub place : StandsBehind ts number at
  pub item : ItemTree
  pub after : List Placed
  pub spelled : SpellsItem (place.first ∷ place.rest) item after
  pub wide : item_is_wide item ≡ true

-- memory ran out, or this is the first fault
abbrev pub IsFaultOf : List Placed → ParseFault → Type 0
IsFaultOf ts (faults.Syntax number at) = IsSyntaxFault ts number at
IsFaultOf ts (faults.Wide number at) = IsWideFault ts number at
IsFaultOf ts faults.NoMemory = Unit {0}

-- tokens spell at most one file
abbrev pub OneFile : Type 0
OneFile = (ts : List Placed) (items others : List ItemTree) → IsFile ts items → IsFile ts others → items ≡ others

-- any tokens spell a file or have a fault
abbrev pub SomeAnswer : Type 0
SomeAnswer =
    (ts : List Placed) → ((items : List ItemTree) × IsFile ts items)
    ⊎ ((number : ℕ) × (at : ℕ) × (IsSyntaxFault ts number at ⊎ IsWideFault ts number at))

-- tokens that spell a file have no fault
abbrev pub FileOrFault : Type 0
FileOrFault = (ts : List Placed) (items : List ItemTree) → IsFile ts items → (number at : ℕ) → (IsSyntaxFault ts number at → ⊥) × (IsWideFault ts number at → ⊥)

-- tokens have at most one fault
abbrev pub OneFault : Type 0
OneFault =
    (ts : List Placed) (number at other place : ℕ) → (IsSyntaxFault ts number at → IsSyntaxFault ts other place → (number ≡ other) × (at ≡ place))
    × (IsWideFault ts number at → IsWideFault ts other place → (number ≡ other) × (at ≡ place)) × (IsSyntaxFault ts number at → IsWideFault ts other place → ⊥)
