-- What a walk asks of written patterns: that they have the form which the type has where they stand. Patterns that
-- break no rule are so.
use Rattle.std.specs.Prelude.{◌≡◌, ℕ, Bool, true, false, List, Option, IfSome, IsTrue}
use Rattle.match_model.specs.declared.Width.{Width}
use Rattle.match_model.specs.Types.{MType}
use Rattle.match_model.specs.Constructors.{SingleCtor}
use Rattle.match_model.specs.RustTypes.{rust_arity, inner_type}
use Rattle.number_kinds.specs.Literals.{is_literal_of}
use Rattle.decl_syntax.specs.Patterns.{PatternTree, At, Shape, PatternTrees, FieldTrees, no_field, and_field, LitTree}
use Rattle.decl_syntax.specs.Patterns as patterns
use Rattle.decl_syntax.specs.Widths.{pattern_count}
use Rattle.pattern_rules.specs.Settings.{Setting, program, bottom_type}
use Rattle.pattern_rules.specs.Namings.{found_by, found_ctor, field_names, field_number, fields_found}
use Rattle.pattern_rules.specs.Nodes.{part_behind, part_types}
use Rattle.pattern_rules.specs.NodeRules.{is_tuple, is_row, is_numeric, has_rests, has_other_count}
use Rattle.pattern_rules.specs.Literals.{end_number, is_empty_at}
use Rattle.pattern_elaboration.specs.Checking.{IsMet}

-- the ends of a range are numbers of the type, and it has one of them
pub record RangeFits (width : Width) (t : MType) (low high : Option LitTree) (closed : Bool) : Type 0 where
  pub numeric : is_numeric t ≡ true
  pub low_fits : IfSome (end_number low) (λ n. IsTrue (is_literal_of width t n))
  pub high_fits : IfSome (end_number high) (λ n. IsTrue (is_literal_of width t n))
  pub some : is_empty_at width t low high closed ≡ false

-- the type is a tuple, and the items are as many as its parts, or fewer with a rest
pub record TupleFits (s : Setting) (t : MType) (ps : PatternTrees) : Type 0 where
  pub type : is_tuple t ≡ true
  pub once : has_rests ps ≡ false
  pub count : has_other_count ps (rust_arity (program s) SingleCtor t) ≡ false

-- the type is a slice or an array, and there is at most one rest
pub record RowFits (t : MType) (ps : PatternTrees) : Type 0 where
  pub type : is_row t ≡ true
  pub once : has_rests ps ≡ false

abbrev mutual
  -- the pattern has the form of the type
  pub Fits : Setting → MType → PatternTree → Type 0
  Fits s t (At from shape) = ShapeFits s t shape

  -- the same of a form
  pub ShapeFits : Setting → MType → Shape → Type 0
  ShapeFits s t (patterns.BindAs name by_ref mutable p) = Fits s t p
  ShapeFits s t (patterns.TupleForm path ps) =
      IsMet s (found_by s (patterns.TupleForm path ps)) (bottom_type t)
      × PartsFit s (part_types s (found_ctor (found_by s (patterns.TupleForm path ps))) (bottom_type t))
      (fields_found s.items (found_by s (patterns.TupleForm path ps))) 0 ps
  ShapeFits s t (patterns.Brace path fs rest) =
      IsMet s (found_by s (patterns.Brace path fs rest)) (bottom_type t)
      × FieldsFit s (part_types s (found_ctor (found_by s (patterns.Brace path fs rest))) (bottom_type t))
      (field_names s.items (found_by s (patterns.Brace path fs rest))) fs
  ShapeFits s t (patterns.Tuple ps) =
      TupleFits s (bottom_type t) ps × PartsFit s (part_types s SingleCtor (bottom_type t))
      (rust_arity (program s) SingleCtor (bottom_type t)) 0 ps
  ShapeFits s t (patterns.Group p) = Fits s t p
  ShapeFits s t (patterns.Slice ps) = RowFits (bottom_type t) ps × PartsFit s (λ i. inner_type (bottom_type t))
      (pattern_count ps) 0 ps
  ShapeFits s t (patterns.Point mutable p) = Fits s (inner_type t) p
  ShapeFits s t (patterns.Range low high closed) = RangeFits s.width (bottom_type t) low high closed
  ShapeFits s t (patterns.Or ps) = AllFit s t ps
  ShapeFits s t _ = Unit {0}

  -- the items of a list, the first of which is this part of so many
  pub PartsFit : Setting → (types : ℕ → MType) → (parts i : ℕ) → PatternTrees → Type 0
  PartsFit s types parts i patterns.none = Unit {0}
  PartsFit s types parts i (patterns.more p ps) = Fits s (types i) p × PartsFit s types parts
      (part_behind parts i p ps) ps

  -- the fields of a brace form, whose form has fields of these names
  pub FieldsFit : Setting → (types : ℕ → MType) → (names : List (List ℕ)) → FieldTrees → Type 0
  FieldsFit s types names no_field = Unit {0}
  FieldsFit s types names (and_field name short attrs p fs) = Fits s (types (field_number names name)) p × FieldsFit s
      types names fs

  -- alternatives
  pub AllFit : Setting → MType → PatternTrees → Type 0
  AllFit s t patterns.none = Unit {0}
  AllFit s t (patterns.more p ps) = Fits s t p × AllFit s t ps
