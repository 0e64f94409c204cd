-- What kind a type is of, by the kind that a table tells.
use Rattle.std.proofs.Common.{◌≡◌, ℕ, Bool, true, Option, refl}
use Rattle.std.specs.Prelude.{option_map, IfSome}
use Rattle.match_model.specs.Types.{MType, OpaqueType, MTypes, MOpaque}
use Rattle.match_model.specs.Typing.{is_opaque}
use Rattle.type_table.specs.declared.table.TypeTable.{TypeTable}
use Rattle.type_table.specs.declared.kinds.TyKind.{TyKind}
use Rattle.type_table.specs.declared.kinds.TyKind.TheVariants as kinds
use Rattle.type_table.specs.Tables.{IsOf, KindIs, table_type}
use Rattle.pattern_elaboration.specs.TypeTests.{point_of, number_kind, row_of, kind_point, kind_number, kind_row}

opaque_is : (t : MType) → is_opaque t ≡ true → (o : MOpaque) × (ts : MTypes) × (t ≡ OpaqueType o ts)
opaque_is (OpaqueType o ts) h = (o, ts, refl)
opaque_is t h = absurd cc

module _ (table : TypeTable) (t : MType) where
  pub point_told : (k : TyKind) → KindIs table t k → option_map {U = Bool × MType} (λ p. (p.0, table_type table p.1))
      (kind_point k) ≡ point_of t
  point_told kinds.Bool h = rw h refl
  point_told kinds.Char h = rw h refl
  point_told (kinds.Int kind) h = rw h refl
  point_told kinds.Str h = rw h refl
  point_told kinds.Never h = rw h refl
  point_told kinds.Opaque h = let o = opaque_is t h in rw o.2 refl
  point_told (kinds.Tuple n) h = rw h.1 refl
  point_told (kinds.Point mutable inner) h = rw h.1 refl
  point_told (kinds.Slice item) h = rw h.1 refl
  point_told (kinds.Array item n) h = rw h.1 refl
  point_told (kinds.Struct n) h = rw h.2 refl
  point_told (kinds.Enum count later) h = rw h.2 refl

  pub number_told : (k : TyKind) → KindIs table t k → kind_number k ≡ number_kind t
  number_told kinds.Bool h = rw h refl
  number_told kinds.Char h = rw h refl
  number_told (kinds.Int kind) h = rw h refl
  number_told kinds.Str h = rw h refl
  number_told kinds.Never h = rw h refl
  number_told kinds.Opaque h = let o = opaque_is t h in rw o.2 refl
  number_told (kinds.Tuple n) h = rw h.1 refl
  number_told (kinds.Point mutable inner) h = rw h.1 refl
  number_told (kinds.Slice item) h = rw h.1 refl
  number_told (kinds.Array item n) h = rw h.1 refl
  number_told (kinds.Struct n) h = rw h.2 refl
  number_told (kinds.Enum count later) h = rw h.2 refl

  pub row_told : (k : TyKind) → KindIs table t k → option_map {U = MType × Option ℕ}
      (λ p. (table_type table p.0, p.1)) (kind_row k) ≡ row_of t
  row_told kinds.Bool h = rw h refl
  row_told kinds.Char h = rw h refl
  row_told (kinds.Int kind) h = rw h refl
  row_told kinds.Str h = rw h refl
  row_told kinds.Never h = rw h refl
  row_told kinds.Opaque h = let o = opaque_is t h in rw o.2 refl
  row_told (kinds.Tuple n) h = rw h.1 refl
  row_told (kinds.Point mutable inner) h = rw h.1 refl
  row_told (kinds.Slice item) h = rw h.1 refl
  row_told (kinds.Array item n) h = rw h.1 refl
  row_told (kinds.Struct n) h = rw h.2 refl
  row_told (kinds.Enum count later) h = rw h.2 refl

  pub point_inner_of : (k : TyKind) → KindIs table t k → IfSome (kind_point k) (λ p. IsOf table p.1)
  point_inner_of kinds.Bool h = tt
  point_inner_of kinds.Char h = tt
  point_inner_of (kinds.Int kind) h = tt
  point_inner_of kinds.Str h = tt
  point_inner_of kinds.Never h = tt
  point_inner_of kinds.Opaque h = tt
  point_inner_of (kinds.Tuple n) h = tt
  point_inner_of (kinds.Point mutable inner) h = h.0
  point_inner_of (kinds.Slice item) h = tt
  point_inner_of (kinds.Array item n) h = tt
  point_inner_of (kinds.Struct n) h = tt
  point_inner_of (kinds.Enum count later) h = tt

  pub row_item_of : (k : TyKind) → KindIs table t k → IfSome (kind_row k) (λ p. IsOf table p.0)
  row_item_of kinds.Bool h = tt
  row_item_of kinds.Char h = tt
  row_item_of (kinds.Int kind) h = tt
  row_item_of kinds.Str h = tt
  row_item_of kinds.Never h = tt
  row_item_of kinds.Opaque h = tt
  row_item_of (kinds.Tuple n) h = tt
  row_item_of (kinds.Point mutable inner) h = tt
  row_item_of (kinds.Slice item) h = h.0
  row_item_of (kinds.Array item n) h = h.0
  row_item_of (kinds.Struct n) h = tt
  row_item_of (kinds.Enum count later) h = tt
