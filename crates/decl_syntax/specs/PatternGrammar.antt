-- What patterns are spelled by, a case for each form of docs/grammar.md (Rust Reference, Patterns; the levels are our
-- own choice).
use Rattle.std.specs.Prelude.{◌≡◌, ℕ, zero, suc, Bool, true, false, ◌||◌, List, [], ◌∷◌}
use Rattle.decl_lexer.specs.declared.marks.Mark.TheVariants as marks
use Rattle.decl_lexer.specs.declared.words.Word.TheVariants as words
use Rattle.decl_lexer.specs.Begins as lexemes
use Rattle.decl_lexer.specs.Lexing.{Placed}
use Rattle.decl_syntax.specs.Units.{is_mark, is_word, from_of}
use Rattle.decl_syntax.specs.Patterns.{LitTree, PathTree, PatternTree, At, Shape, Wild, Rest, Literal, Name, Bind, BindAs, Path, TupleForm, Brace, Tuple, Group, Slice, Point, Or, none, more, patterns_from, AttrTree, FieldTree, fields_from, fits}
use Rattle.decl_syntax.specs.Grammar.{Spelling, IsMark, NextIsNot, CommaList, Separated, Maybe, Many}
use Rattle.decl_syntax.specs.Runs.{SpellsAttribute}
use Rattle.decl_syntax.specs.FieldNames.{SpellsLabel}
use Rattle.decl_syntax.specs.EndGrammar.{Segment, path_of, SpellsPath, IsLiteral, IsNegated, begins_end, SpellsRange}

-- `ref`, `mut` and a name
pub record Binding : Type 0 where
  pub by_ref : Bool
  pub mutable : Bool
  pub name : List ℕ

-- ["ref"] ["mut"] NAME
pub data SpellsBinding : List Placed → Binding → List Placed → Type 0 where
  binding : (ts us rest : List Placed) (word : Placed) (by_ref mutable : Bool) (name : List ℕ) (raw : Bool) → Maybe (is_word words.Ref) ts by_ref us
      → Maybe (is_word words.Mut) us mutable (word ∷ rest) → word.lexeme ≡ lexemes.Named name raw
      → SpellsBinding ts (record { by_ref = by_ref; mutable = mutable; name = name }) rest

-- a path alone, by its names: one name is a name pattern
abbrev pub shape_by_names : PathTree → Bool → List (List ℕ) → Shape
shape_by_names path true (name ∷ []) = Name name
shape_by_names path _ _ = Path path

-- a path alone
abbrev pub path_shape : PathTree → Shape
path_shape path = shape_by_names path path.plain path.names

-- no range begins here
abbrev pub NoRange : List Placed → Type 0
NoRange ts = (shape : Shape) (rest : List Placed) → SpellsRange ts shape rest → ⊥

-- an alternative: a range, or else what Plain says
pub data AltForm (Plain : Spelling Shape) : List Placed → PatternTree → List Placed → Type 0 where
  a_range : (ts rest : List Placed) (shape : Shape) → SpellsRange ts shape rest → AltForm Plain ts (At (from_of ts) shape) rest
  a_plain : (ts rest : List Placed) (shape : Shape) → NoRange ts → Plain ts shape rest → AltForm Plain ts (At (from_of ts) shape) rest

-- ["|"] alternatives with "|" between them; one alone is itself
pub data PatternForm (Plain : Spelling Shape) : List Placed → PatternTree → List Placed → Type 0 where
  one : (ts us rest : List Placed) (bar : Bool) (p : PatternTree) → Maybe (is_mark marks.Bar) ts bar us → Separated marks.Bar (AltForm Plain) us (p ∷ []) rest
      → PatternForm Plain ts p rest
  several : (ts us rest : List Placed) (bar : Bool) (p q : PatternTree) (ps : List PatternTree) → Maybe (is_mark marks.Bar) ts bar us
      → Separated marks.Bar (AltForm Plain) us (p ∷ q ∷ ps) rest → PatternForm Plain ts (At (from_of us) (Or (more p (more q (patterns_from ps))))) rest

-- an item of a list: ".." that no end of a range follows, or a pattern
pub data ItemForm (Plain : Spelling Shape) : List Placed → PatternTree → List Placed → Type 0 where
  a_rest : (dots : Placed) (rest : List Placed) → IsMark marks.TwoDots dots → NextIsNot begins_end rest → ItemForm Plain (dots ∷ rest) (At dots.from Rest) rest
  a_pattern : (ts rest : List Placed) (p : PatternTree) → PatternForm Plain ts p rest → ItemForm Plain ts p rest

-- ["ref"] ["mut"] NAME "@" "..", which no end of a range follows
pub data SpellsBoundRest : List Placed → PatternTree → List Placed → Type 0 where
  bound_rest : (ts rest : List Placed) (at dots : Placed) (b : Binding) → SpellsBinding ts b (at ∷ dots ∷ rest) → IsMark marks.At at → IsMark marks.TwoDots dots
      → NextIsNot begins_end rest → SpellsBoundRest ts (At (from_of ts) (BindAs b.name b.by_ref b.mutable (At dots.from Rest))) rest

-- an item of a slice: a bound rest, or else an item as of any list
pub data SliceItemForm (Plain : Spelling Shape) : List Placed → PatternTree → List Placed → Type 0 where
  a_bound_rest : (ts rest : List Placed) (p : PatternTree) → SpellsBoundRest ts p rest → SliceItemForm Plain ts p rest
  an_item : (ts rest : List Placed) (p : PatternTree) → ((q : PatternTree) (us : List Placed) → SpellsBoundRest ts q us → ⊥) → ItemForm Plain ts p rest
      → SliceItemForm Plain ts p rest

-- a field of a brace pattern: attributes, then a label and a pattern, or, where no label begins, a binding
pub data FieldForm (Plain : Spelling Shape) : List Placed → FieldTree → List Placed → Type 0 where
  labelled : (ts us vs rest : List Placed) (attrs : List AttrTree) (name : List ℕ) (p : PatternTree) → Many marks.Hash SpellsAttribute ts attrs us
      → SpellsLabel us name vs → PatternForm Plain vs p rest → FieldForm Plain ts (record { name = name; short = false; attrs = attrs; pattern = p }) rest
  shorthand : (ts us rest : List Placed) (attrs : List AttrTree) (b : Binding) → Many marks.Hash SpellsAttribute ts attrs us → ((name : List ℕ) (vs : List Placed) → SpellsLabel us name vs → ⊥)
      → SpellsBinding us b rest
      → FieldForm Plain ts (record { name = b.name; short = true; attrs = attrs; pattern = At (from_of us) (Bind b.name b.by_ref b.mutable) }) rest

-- fields with commas between them and an optional last comma up to "}", or up to ".." "}" at the start or behind a comma
pub data FieldList (Plain : Spelling Shape) : List Placed → List FieldTree × Bool → List Placed → Type 0 where
  all_closed : (t : Placed) (rest : List Placed) → IsMark marks.CloseCurly t → FieldList Plain (t ∷ rest) ([], false) rest
  all_dotted : (dots t : Placed) (rest : List Placed) → IsMark marks.TwoDots dots → IsMark marks.CloseCurly t → FieldList Plain (dots ∷ t ∷ rest) ([], true) rest
  last_field : (ts rest : List Placed) (f : FieldTree) (t : Placed) → FieldForm Plain ts f (t ∷ rest) → IsMark marks.CloseCurly t → FieldList Plain ts (f ∷ [], false) rest
  next_field : (ts us rest : List Placed) (f : FieldTree) (fs : List FieldTree) (dotted : Bool) (t : Placed) → FieldForm Plain ts f (t ∷ us) → IsMark marks.Comma t
      → FieldList Plain us (fs, dotted) rest → FieldList Plain ts (f ∷ fs, dotted) rest

-- the forms of a pattern that is no range, where Plain says what is within
pub data PlainForm (Plain : Spelling Shape) : List Placed → Shape → List Placed → Type 0 where
  -- "_"
  wild : (t : Placed) (rest : List Placed) → IsMark marks.Underscore t → PlainForm Plain (t ∷ rest) Wild rest
  -- a literal
  literal : (t : Placed) (rest : List Placed) (x : LitTree) → IsLiteral t.lexeme x → PlainForm Plain (t ∷ rest) (Literal x) rest
  -- "-" and a number
  negative : (minus t : Placed) (rest : List Placed) (x : LitTree) → IsMark marks.Minus minus → IsNegated t.lexeme x → PlainForm Plain (minus ∷ t ∷ rest) (Literal x) rest
  -- ["ref"] ["mut"] NAME "@" alternative
  bound_as : (ts us rest : List Placed) (at : Placed) (b : Binding) (p : PatternTree) → SpellsBinding ts b (at ∷ us) → IsMark marks.At at → AltForm Plain us p rest
      → PlainForm Plain ts (BindAs b.name b.by_ref b.mutable p) rest
  -- ["ref"] ["mut"] NAME, with one of the words and no "@"
  bound : (ts rest : List Placed) (b : Binding) → SpellsBinding ts b rest → (b.by_ref || b.mutable) ≡ true → NextIsNot (is_mark marks.At) rest
      → PlainForm Plain ts (Bind b.name b.by_ref b.mutable) rest
  -- a name or a path, which no "(", "{" or "@" follows
  path : (ts rest : List Placed) (segments : List Segment) → SpellsPath ts segments rest → NextIsNot (is_mark marks.OpenRound) rest
      → NextIsNot (is_mark marks.OpenCurly) rest → NextIsNot (is_mark marks.At) rest → PlainForm Plain ts (path_shape (path_of segments)) rest
  -- path "(" items ")"
  tuple_form : (ts us rest : List Placed) (segments : List Segment) (opening : Placed) (ps : List PatternTree) → SpellsPath ts segments (opening ∷ us)
      → IsMark marks.OpenRound opening → CommaList marks.CloseRound (ItemForm Plain) us ps rest → PlainForm Plain ts (TupleForm (path_of segments) (patterns_from ps)) rest
  -- path "{" fields "}"
  brace_form : (ts us rest : List Placed) (segments : List Segment) (opening : Placed) (fs : List FieldTree) (dotted : Bool) → SpellsPath ts segments (opening ∷ us)
      → IsMark marks.OpenCurly opening → FieldList Plain us (fs, dotted) rest → PlainForm Plain ts (Brace (path_of segments) (fields_from fs) dotted) rest
  -- "(" ")"
  unit : (opening closing : Placed) (rest : List Placed) → IsMark marks.OpenRound opening → IsMark marks.CloseRound closing
      → PlainForm Plain (opening ∷ closing ∷ rest) (Tuple none) rest
  -- "(" ".." ")"
  only_rest : (opening dots closing : Placed) (rest : List Placed) → IsMark marks.OpenRound opening → IsMark marks.TwoDots dots → IsMark marks.CloseRound closing
      → PlainForm Plain (opening ∷ dots ∷ closing ∷ rest) (Tuple (more (At dots.from Rest) none)) rest
  -- "(" pattern ")"
  group : (opening closing : Placed) (ts rest : List Placed) (p : PatternTree) → IsMark marks.OpenRound opening → PatternForm Plain ts p (closing ∷ rest)
      → IsMark marks.CloseRound closing → PlainForm Plain (opening ∷ ts) (Group p) rest
  -- "(" item "," items ")"
  tuple : (opening comma : Placed) (ts us rest : List Placed) (first : PatternTree) (others : List PatternTree) → IsMark marks.OpenRound opening
      → ItemForm Plain ts first (comma ∷ us) → IsMark marks.Comma comma → CommaList marks.CloseRound (ItemForm Plain) us others rest
      → PlainForm Plain (opening ∷ ts) (Tuple (more first (patterns_from others))) rest
  -- "[" items of a slice "]"
  slice : (opening : Placed) (ts rest : List Placed) (ps : List PatternTree) → IsMark marks.OpenSquare opening
      → CommaList marks.CloseSquare (SliceItemForm Plain) ts ps rest → PlainForm Plain (opening ∷ ts) (Slice (patterns_from ps)) rest
  -- "&" ["mut"] plain; a "mut" behind "&" belongs to it
  point : (and : Placed) (ts us rest : List Placed) (mutable : Bool) (inner : Shape) → IsMark marks.Ampersand and → Maybe (is_word words.Mut) ts mutable us
      → Plain us inner rest → PlainForm Plain (and ∷ ts) (Point mutable (At (from_of us) inner)) rest

-- a pattern that is no range, with at most so many forms around each other
unfoldable pub SpellsPlain : ℕ → List Placed → Shape → List Placed → Type 0
SpellsPlain zero ts shape rest = ⊥
SpellsPlain (suc n) ts shape rest = PlainForm (SpellsPlain n) ts shape rest

-- a pattern of at most 64 levels: so many forms around each other are enough for it
unfoldable pub SpellsPattern : List Placed → PatternTree → List Placed → Type 0
SpellsPattern ts p rest = PatternForm (SpellsPlain 64) ts p rest × (fits p 64 ≡ true)

-- tokens begin with at most one pattern
abbrev pub OnePattern : Type 0
OnePattern = (ts us vs : List Placed) (p q : PatternTree) → SpellsPattern ts p us → SpellsPattern ts q vs → (p ≡ q) × (us ≡ vs)

-- however many forms stand around each other: a pattern of at most 64 levels has at most 64 of them
abbrev pub LevelsSuffice : Type 0
LevelsSuffice = (n : ℕ) (ts rest : List Placed) (p : PatternTree) → PatternForm (SpellsPlain n) ts p rest → fits p 64 ≡ true → PatternForm (SpellsPlain 64) ts p rest
