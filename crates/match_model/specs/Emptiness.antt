-- Finding which types have a value at a sure place, from marks on named types: a type is marked once a value of it is known
-- (our own choice). A contract tells emptiness by the values of a type, through the law on emptiness, never by the marks.
use Rattle.std.specs.Prelude.{◌≡◌, ◌⊎◌, ℕ, Bool, true, false, not, ◌&&◌, ◌||◌, nat_eq, Some, None, IsTrue}
use Rattle.std.specs.List.{list_any}
use Rattle.match_model.specs.Types.{MOwner, MType, NeverType, TupleType, PointType, ArrayType, NamedType, MTypes, no_types, more_types}
use Rattle.match_model.specs.Declarations.{MProgram, form_types, node_types, variants_of, is_marked, is_constructorless}
use Rattle.match_model.specs.Values.{MValue}
use Rattle.match_model.specs.ContextLaws.{PartsLaw, EmptyLaw, UnsureLaw}
use Rattle.match_model.specs.RustTypes.{is_type, rust_context, RustValue, FieldsAreTypes, IsSoundProgram}

abbrev mutual
  -- by the marks the type has a value at a place that is sure to hold a valid value, or is not
  pub has_value : (sure : Bool) → (marked : MType → Bool) → MType → Bool
  has_value sure marked NeverType = not sure
  has_value sure marked (TupleType ts) = all_have_value sure marked ts
  has_value sure marked (PointType mutable t) = sure || has_value sure marked t
  has_value sure marked (ArrayType t n) = nat_eq n 0 || has_value sure marked t
  has_value sure marked (NamedType owner arguments) = marked (NamedType owner arguments)
  has_value sure marked _ = true

  -- by the marks each of the types has a value
  pub all_have_value : (sure : Bool) → (marked : MType → Bool) → MTypes → Bool
  all_have_value sure marked no_types = true
  all_have_value sure marked (more_types t ts) = has_value sure marked t && all_have_value sure marked ts

-- by the marks a named type has a value: all fields of one of its variants have one, later ones may come, or its bare unseen value
-- stands there
abbrev pub some_variant_has_value : MProgram → (sure : Bool) → (marked : MType → Bool) → MType → Bool
some_variant_has_value program sure marked t =
    is_marked program t || ((is_constructorless program t && not sure) || list_any (λ v. all_have_value sure marked (form_types v.form)) (variants_of program t))

-- by the marks the parts of a variant have values
abbrev pub variant_has_value : MProgram → (marked : MType → Bool) → MType → ℕ → Bool
variant_has_value program marked t k = elim (node_types program t k) [ None ↦ false | Some ts ↦ all_have_value true marked ts ]

-- the type is one of the program's
abbrev pub IsRustType : MProgram → MType → Type 0
IsRustType program t = IsTrue (is_type program t)

-- each type that is marked has a value, and none is left to mark
pub record AreMarks (program : MProgram) (sure : Bool) (marked : MType → Bool) : Type 0 where
  pub held : (t : MType) → IsRustType program t → marked t ≡ true → (v : MValue) × RustValue program t sure v
  pub stable : (t : MType) → some_variant_has_value program sure marked t ≡ true → marked t ≡ true

-- such marks tell emptiness exactly
abbrev pub RustEmptyLaw : Type 0
RustEmptyLaw =
    (program : MProgram) (marked : MType → Bool) → IsSoundProgram program → AreMarks program true marked →
    EmptyLaw (IsRustType program) (RustValue program) (rust_context program)
    (λ t. not (has_value true marked t)) (λ t k. not (variant_has_value program marked t k))

-- every type of the program has a value at an unsure place
abbrev pub RustUnsureLaw : Type 0
RustUnsureLaw = (program : MProgram) → IsSoundProgram program → UnsureLaw (IsRustType program) (RustValue program)

-- a type of a sound program has a value at a sure place or has none, and which is decided
abbrev pub ValuedOrNone : Type 0
ValuedOrNone =
    (program : MProgram) → IsSoundProgram program → (t : MType) → IsRustType program t →
    ((v : MValue) × RustValue program t true v) ⊎ ((v : MValue) → RustValue program t true v → ⊥)

-- a named type has a finite value at an unsure place or has none, and which is decided
abbrev pub FiniteOrNone : Type 0
FiniteOrNone =
    (program : MProgram) → FieldsAreTypes program → (owner : MOwner) (arguments : MTypes) → IsRustType program (NamedType owner arguments) →
    ((v : MValue) × RustValue program (NamedType owner arguments) false v) ⊎ ((v : MValue) → RustValue program (NamedType owner arguments) false v → ⊥)

-- Rust's own types keep the law on parts
abbrev pub RustPartsLaw : Type 0
RustPartsLaw =
    (program : MProgram) → IsSoundProgram program →
    PartsLaw (IsRustType program) (RustValue program) (rust_context program)
