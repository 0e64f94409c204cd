-- Written patterns, without where they lie in memory (Rust Reference, Patterns).
use Rattle.std.specs.Prelude.{ℕ, zero, suc, Bool, true, false, ◌&&◌, List, [], ◌∷◌, Option, Some, None, string_bytes, map, option_map}
use Rattle.std.specs.Rc.{rc_str_bytes}
use Rattle.decl_syntax.specs.declared.tree.Path as declared_path
use Rattle.decl_syntax.specs.declared.tree.Lit.{Lit}
use Rattle.decl_syntax.specs.declared.tree.Lit.TheVariants as lits
use Rattle.decl_syntax.specs.declared.tree.Attr as declared_attr
use Rattle.decl_syntax.specs.declared.tree.Pat.{Pat}
use Rattle.decl_syntax.specs.declared.tree.FieldPat.{FieldPat}
use Rattle.decl_syntax.specs.declared.tree.PatKind.{PatKind}
use Rattle.decl_syntax.specs.declared.tree.PatKind.TheOpen as open_kind
use Rattle.decl_syntax.specs.declared.tree.PatKind.TheOpen.{PatKind-F, Pat-F, FieldPat-F}
use Rattle.decl_syntax.specs.declared.tree.PatKind.TheFolds.{fold-Pat, fold-FieldPat, fold-PatKind}

-- the names of a path, and whether each of them is a plain name
pub record PathTree : Type 0 where
  pub names : List (List ℕ)
  pub plain : Bool

-- what a caller sees of a path
abbrev pub path_view : declared_path.Path → PathTree
path_view p = record { names = map rc_str_bytes p.names.items; plain = p.plain }

-- a literal or the end of a range
pub data LitTree : Type 0 where
  Flag : Bool → LitTree
  Char : ℕ → LitTree
  Byte : ℕ → LitTree
  Int : Bool → Option ℕ → List ℕ → LitTree
  Str : List ℕ → LitTree
  Other : LitTree

-- what a caller sees of it
abbrev pub lit_view : Lit → LitTree
lit_view (lits.Flag b) = Flag b
lit_view (lits.Char c) = Char c
lit_view (lits.Byte b) = Byte b
lit_view (lits.Small negative size) = Int negative (Some size) []
lit_view (lits.Int int) = Int int.value.negative int.value.size (string_bytes int.value.suffix)
lit_view (lits.Str text) = Str (string_bytes text)
lit_view lits.Other = Other

-- an attribute's place and word
pub record AttrTree : Type 0 where
  pub from : ℕ
  pub word : List ℕ

-- what a caller sees of it
abbrev pub attr_view : declared_attr.Attr → AttrTree
attr_view a = record { from = a.from; word = rc_str_bytes a.word }

-- a pattern with its place, its forms, and lists of patterns and of fields
mutual
  pub data PatternTree : Type 0 where
    At : ℕ → Shape → PatternTree

  pub data Shape : Type 0 where
    Wild : Shape
    Rest : Shape
    Literal : LitTree → Shape
    Name : List ℕ → Shape
    Bind : List ℕ → Bool → Bool → Shape
    BindAs : List ℕ → Bool → Bool → PatternTree → Shape
    Path : PathTree → Shape
    TupleForm : PathTree → PatternTrees → Shape
    Brace : PathTree → FieldTrees → Bool → Shape
    Tuple : PatternTrees → Shape
    Group : PatternTree → Shape
    Slice : PatternTrees → Shape
    Point : Bool → PatternTree → Shape
    Range : Option LitTree → Option LitTree → Bool → Shape
    Or : PatternTrees → Shape

  pub data PatternTrees : Type 0 where
    none : PatternTrees
    more : PatternTree → PatternTrees → PatternTrees

  pub data FieldTrees : Type 0 where
    no_field : FieldTrees
    and_field : List ℕ → (short : Bool) → List AttrTree → PatternTree → FieldTrees → FieldTrees

-- a field of a brace pattern, and whether it was written short, without a label, so that the name it binds is not looked up
pub record FieldTree : Type 0 where
  pub name : List ℕ
  pub short : Bool
  pub attrs : List AttrTree
  pub pattern : PatternTree

-- the patterns of a list
abbrev pub patterns_from : List PatternTree → PatternTrees
patterns_from [] = none
patterns_from (p ∷ ps) = more p (patterns_from ps)

-- the fields of a list
abbrev pub fields_from : List FieldTree → FieldTrees
fields_from [] = no_field
fields_from (f ∷ fs) = and_field f.name f.short f.attrs f.pattern (fields_from fs)

-- a binding, with or without what it is bound at
abbrev pub bind_shape : List ℕ → Bool → Bool → Option PatternTree → Shape
bind_shape name by_ref mutable None = Bind name by_ref mutable
bind_shape name by_ref mutable (Some p) = BindAs name by_ref mutable p

-- one level of a pattern, with what its parts are in their place
abbrev pub shape_step : PatKind-F Shape FieldTree PatternTree → Shape
shape_step open_kind.Wild = Wild
shape_step open_kind.Rest = Rest
shape_step (open_kind.Lit l) = Literal (lit_view l)
shape_step (open_kind.Name text) = Name (rc_str_bytes text)
shape_step (open_kind.Bind name by_ref mutable sub) = bind_shape (rc_str_bytes name) by_ref mutable (option_map (λ b. b.value) sub)
shape_step (open_kind.Path path) = Path (path_view path)
shape_step (open_kind.TupleForm path items) = TupleForm (path_view path.value) (patterns_from items.items)
shape_step (open_kind.Brace path fields rest) = Brace (path_view path.value) (fields_from fields.items) rest
shape_step (open_kind.Tuple items) = Tuple (patterns_from items.items)
shape_step (open_kind.Group inner) = Group inner.value
shape_step (open_kind.Slice items) = Slice (patterns_from items.items)
shape_step (open_kind.Point mutable inner) = Point mutable inner.value
shape_step (open_kind.Range range) = Range (option_map lit_view range.value.low) (option_map lit_view range.value.high) range.value.closed
shape_step (open_kind.Or all) = Or (patterns_from all.items)

-- the same of a pattern with its place
abbrev pub pattern_step : Pat-F Shape FieldTree PatternTree → PatternTree
pattern_step p = At p.from p.kind

-- the same of a field
abbrev pub field_step : FieldPat-F Shape FieldTree PatternTree → FieldTree
field_step f = record { name = rc_str_bytes f.name; short = f.short; attrs = map attr_view f.attrs.items; pattern = f.pat }

-- what a caller sees of a pattern
abbrev pub pattern_view : Pat → PatternTree
pattern_view = fold-Pat Shape FieldTree PatternTree shape_step field_step pattern_step

-- what a caller sees of its form
abbrev pub shape_view : PatKind → Shape
shape_view = fold-PatKind Shape FieldTree PatternTree shape_step field_step pattern_step

-- what a caller sees of a field
abbrev pub field_view : FieldPat → FieldTree
field_view = fold-FieldPat Shape FieldTree PatternTree shape_step field_step pattern_step

-- whether a pattern has at most so many levels: one for each node on each way down
abbrev mutual
  pub fits : PatternTree → ℕ → Bool
  fits (At from shape) zero = false
  fits (At from shape) (suc n) = fits_within shape n

  pub fits_within : Shape → ℕ → Bool
  fits_within (BindAs name by_ref mutable p) n = fits p n
  fits_within (TupleForm path ps) n = all_fit ps n
  fits_within (Brace path fs rest) n = fields_fit fs n
  fits_within (Tuple ps) n = all_fit ps n
  fits_within (Group p) n = fits p n
  fits_within (Slice ps) n = all_fit ps n
  fits_within (Point mutable p) n = fits p n
  fits_within (Or ps) n = all_fit ps n
  fits_within _ n = true

  pub all_fit : PatternTrees → ℕ → Bool
  all_fit none n = true
  all_fit (more p ps) n = fits p n && all_fit ps n

  pub fields_fit : FieldTrees → ℕ → Bool
  fields_fit no_field n = true
  fields_fit (and_field name short attrs p fs) n = fits p n && fields_fit fs n
