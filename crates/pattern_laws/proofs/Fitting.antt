-- What the tests of a written pattern come to for the pattern that it means: it fits its type.
use Rattle.std.proofs.Common.{◌≡◌, ℕ, suc, ◌+◌, ◌-◌, ◌≤◌, Bool, true, false, length, Some, nat_eq, nat_le, ◌^◌}
use Rattle.std.specs.List.{list_all}
use Rattle.match_model.specs.Texts.{is_scalar}
use Rattle.match_model.specs.Types.{MType, BoolType, StrType, TupleType, PointType, SliceType, ArrayType, types_list}
use Rattle.match_model.specs.Numbers.{MRange, closed}
use Rattle.match_model.specs.Declarations.{MProgram, node_types}
use Rattle.match_model.specs.RustTypes.{rust_set, part_type}
use Rattle.match_model.specs.Constructors.{NumbersCtor, belongs}
use Rattle.match_model.specs.Patterns.{MRest, NoRest, SomeRest, BoundRest, MPat, WildPat, NumPat, FlagPat, TextPat, SpanPat, BindPat, FormPat, ListPat, PointPat, OrPat, MPats, no_pats, more_pats, MNumbered, no_numbered, more_numbered, numbers_in}
use Rattle.match_model.specs.SourcePatterns.{two_or_more}
use Rattle.pattern_rules.specs.Builders.{types_or_none, node_ctor}
use Rattle.pattern_laws.proofs.KeptLeaves.{AtBottom, EachType}
use Rattle.pattern_laws.proofs.KeptParts.{FormFits}

-- the range belongs to the numbers of the type
abbrev pub RangeFits : MProgram → MRange → MType → Type 0
RangeFits program r u = belongs (rust_set program u) (NumbersCtor r) ≡ true

-- the type is `bool`
abbrev pub IsBool : MType → Type 0
IsBool BoolType = Unit {0}
IsBool _ = ⊥

-- the type is `&str`
abbrev pub IsText : MType → Type 0
IsText (PointType false StrType) = Unit {0}
IsText _ = ⊥

-- the variant is one of the type
abbrev pub VariantFits : MProgram → ℕ → MType → Type 0
VariantFits program k u = belongs (rust_set program u) (node_ctor (rust_set program u) k) ≡ true

-- the rest has no name
abbrev pub IsUnbound : MRest → Type 0
IsUnbound NoRest = Unit {0}
IsUnbound SomeRest = Unit {0}
IsUnbound (BoundRest name written) = ⊥

-- so many items at both ends are all of so many, or with a rest not more
abbrev pub CountFits : MRest → (ends parts : ℕ) → Type 0
CountFits NoRest ends parts = ends ≡ parts
CountFits SomeRest ends parts = ends ≤ parts
CountFits (BoundRest name written) ends parts = ends ≤ parts

-- a row has no more items than an array can have, but for one
abbrev pub IsNarrow : ℕ → Type 0
IsNarrow n = nat_le n (2 ^ 32) ≡ true

-- how many patterns a list has
abbrev pub pats_count : MPats → ℕ
pats_count no_pats = 0
pats_count (more_pats p ps) = suc (pats_count ps)

-- how many fields or alternatives there are
abbrev pub numbered_count : MNumbered → ℕ
numbered_count no_numbered = 0
numbered_count (more_numbered n p ps) = suc (numbered_count ps)

-- the type is a reference of this kind, and what it refers to fits
abbrev pub PointFits : (mutable : Bool) → (MType → Type 0) → MType → Type 0
PointFits mutable P (PointType n t) = (mutable ≡ n) × P t
PointFits mutable P _ = ⊥

-- what a list asks of the type: of a slice or array that both ends fit the items, of a tuple that each item fits its part
abbrev pub ListFits : (front : (ℕ → MType) → ℕ → Type 0) → MRest → (back : (ℕ → MType) → ℕ → Type 0) →
    (fronts backs : ℕ) → MType → Type 0
ListFits front rest back fronts backs (SliceType item) = IsNarrow (fronts + backs) × front (λ i. item) 0
    × back (λ i. item) 0
ListFits front rest back fronts backs (ArrayType item n) =
    IsNarrow (fronts + backs) × CountFits rest (fronts + backs) n × front (λ i. item) 0 × back (λ i. item) 0
ListFits front rest back fronts backs (TupleType ts) =
    IsUnbound rest × CountFits rest (fronts + backs) (length (types_list ts))
    × front (part_type (TupleType ts) (Some ts)) 0 × back (part_type (TupleType ts) (Some ts))
    (length (types_list ts) - backs)
ListFits front rest back fronts backs _ = ⊥

-- of two facts the one that the test says
abbrev pub FitsIf : Bool → (here there : Type 0) → Type 0
FitsIf true here there = here
FitsIf false here there = there

abbrev mutual
  -- the pattern fits the type; of each range, a number being one, this holds at its type, and there are at most so many
  -- alternatives each time
  pub Fits : MProgram → (Holds : MRange → MType → Type 0) → (most : ℕ) → MPat → MType → Type 0
  Fits program Holds most WildPat t = Unit {0}
  Fits program Holds most (NumPat n) t = AtBottom (λ u. Holds (closed n n) u) t
  Fits program Holds most (FlagPat b) t = AtBottom (λ u. IsBool u) t
  Fits program Holds most (TextPat s) t = IsText t × (list_all is_scalar s ≡ true)
  Fits program Holds most (SpanPat at r) t = AtBottom (λ u. Holds r u) t
  Fits program Holds most (BindPat name written p) t = Fits program Holds most p t
  Fits program Holds most (FormPat k fields) t =
      AtBottom (λ u. VariantFits program k u × FormFits program u k (numbers_in fields)
      × EachType (λ i w. FieldFits program Holds most fields i w) 0 (types_or_none (node_types program u k))) t
  Fits program Holds most (ListPat front rest back) t =
      AtBottom (λ u. ListFits (λ types i. PatsFit program Holds most front types i) rest
      (λ types i. PatsFit program Holds most back types i) (pats_count front) (pats_count back) u) t
  Fits program Holds most (PointPat mutable p) t = PointFits mutable (λ u. Fits program Holds most p u) t
  Fits program Holds most (OrPat alternatives) t = (two_or_more alternatives ≡ true)
      × (numbered_count alternatives ≤ most) × AllFit program Holds most alternatives t

  -- the field with this number fits the type, if it is written
  pub FieldFits : MProgram → (Holds : MRange → MType → Type 0) → (most : ℕ) → MNumbered → ℕ → MType → Type 0
  FieldFits program Holds most no_numbered i t = Unit {0}
  FieldFits program Holds most (more_numbered j p ps) i t = FitsIf (nat_eq i j) (Fits program Holds most p t)
      (FieldFits program Holds most ps i t)

  -- the patterns fit the types from number `i` on
  pub PatsFit : MProgram → (Holds : MRange → MType → Type 0) → (most : ℕ) → MPats → (types : ℕ → MType) → (i : ℕ) →
      Type 0
  PatsFit program Holds most no_pats types i = Unit {0}
  PatsFit program Holds most (more_pats p ps) types i = Fits program Holds most p (types i)
      × PatsFit program Holds most ps types (suc i)

  -- the alternatives all fit the type
  pub AllFit : MProgram → (Holds : MRange → MType → Type 0) → (most : ℕ) → MNumbered → MType → Type 0
  AllFit program Holds most no_numbered t = Unit {0}
  AllFit program Holds most (more_numbered at p ps) t = Fits program Holds most p t × AllFit program Holds most ps t
