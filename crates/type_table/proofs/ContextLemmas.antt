-- The context of a table keeps the laws of a context, since it is seen through the types of its numbers as Rust's own.
use Rattle.std.proofs.Common.{◌≡◌, ℕ, refl, ap}
use Rattle.match_model.specs.Constructors.{MCtor, SingleCtor, PointCtor, VariantCtor, RowCtor}
use Rattle.match_model.specs.ContextViews.{View}
use Rattle.match_model.specs.ContextLaws.{ValuesLaw, PartsLaw, EmptyLaw, UnsureLaw}
use Rattle.match_model.specs.Emptiness.{IsRustType}
use Rattle.match_model.specs.RustTypes.{rust_context, rust_sub, RustValue}
use Rattle.match_model.proofs.Carried.{values_carry, parts_carry, unsure_carries}
use Rattle.match_model.proofs.Marked.{rust_unsure}
use Rattle.match_model.proofs.RustParts.{rust_parts}
use Rattle.match_model.proofs.RustValues.{rust_values_law}
use Rattle.type_table.specs.declared.table.TyId.{TyId}
use Rattle.type_table.specs.declared.table.TypeTable.{TypeTable}
use Rattle.type_table.specs.Marks.{found_empty, found_variant_empty}
use Rattle.type_table.specs.TableContext.{table_sub, table_context, TableValue}
use Rattle.type_table.specs.Tables.{IsOf, table_program, table_type}
use Rattle.type_table.proofs.EmptyTypes.{rust_types, sound_table, empty_law}
use Rattle.type_table.proofs.PartLemmas.{part_is, part_id_is_of, inner_is, inner_is_of}

module _ (t : TypeTable) where
  -- equal types have one number
  pub one_id : (a b : TyId) → IsOf t a → IsOf t b → table_type t a ≡ table_type t b → a ≡ b
  one_id a b of_a of_b same = ap numbered (t.whole.one a.index b.index of_a of_b same)
    where
      numbered : ℕ → TyId
      numbered i = record { index = i }

  -- the types of parts, by their numbers
  sub_is : (c : MCtor) (ty : TyId) (i : ℕ) → rust_sub (table_program t) c (table_type t ty) i ≡ table_type t (table_sub t c ty i)
  sub_is SingleCtor ty i = part_is t ty 0 i
  sub_is (VariantCtor k) ty i = part_is t ty k i
  sub_is PointCtor ty i = inner_is t ty
  sub_is (RowCtor s) ty i = inner_is t ty
  sub_is _ ty i = refl

  -- they are of the table
  sub_is_of : (c : MCtor) (ty : TyId) (i : ℕ) → IsOf t ty → IsOf t (table_sub t c ty i)
  sub_is_of SingleCtor ty i of = part_id_is_of t ty 0 i of
  sub_is_of (VariantCtor k) ty i of = part_id_is_of t ty k i of
  sub_is_of PointCtor ty i of = inner_is_of t ty of
  sub_is_of (RowCtor s) ty i of = inner_is_of t ty of
  sub_is_of _ ty i of = of

  pub table_view : View (table_type t) (IsOf t) (IsRustType (table_program t)) (table_context t) (rust_context (table_program t))
  table_view = record {
    set = λ ty. refl;
    arity = λ c ty. refl;
    sub = sub_is;
    is_type = rust_types t;
    part_type = λ ty e i of h lt. sub_is_of _ ty i of;
    item_type = λ ty r i of h. sub_is_of (RowCtor r) ty i of;
    one = one_id;
  }

  pub table_values : ValuesLaw (IsOf t) (TableValue t) (table_context t)
  table_values = values_carry _ _ _ _ _ _ table_view (rust_values_law (table_program t))

  pub table_parts : PartsLaw (IsOf t) (TableValue t) (table_context t)
  table_parts = parts_carry _ _ _ _ _ _ table_view (rust_parts (table_program t) (sound_table t))

  pub table_empty : EmptyLaw (IsOf t) (TableValue t) (table_context t) (found_empty t) (found_variant_empty t)
  table_empty = empty_law t (table_context t)

  pub table_unsure : UnsureLaw (IsOf t) (TableValue t)
  table_unsure = unsure_carries (table_type t) (IsOf t) (IsRustType (table_program t)) (RustValue (table_program t)) (table_context t) (rust_context (table_program t)) table_view (rust_unsure (table_program t) (sound_table t))
