-- The context of a table: what its types are made of, by their numbers.
use Rattle.std.specs.Prelude.{ℕ, Bool}
use Rattle.match_model.specs.Constructors.{MCtor, SingleCtor, PointCtor, VariantCtor, RowCtor}
use Rattle.match_model.specs.Contexts.{Context}
use Rattle.match_model.specs.RustTypes.{rust_set, rust_arity, RustValue}
use Rattle.match_model.specs.Values.{MValue}
use Rattle.type_table.specs.declared.table.TyId.{TyId}
use Rattle.type_table.specs.declared.table.TypeTable.{TypeTable}
use Rattle.type_table.specs.Tables.{table_program, table_type}
use Rattle.type_table.specs.Parts.{part_id, inner_id}

-- the number of the type of part `i` of a constructor in a type; where there is none it is that of the type itself
abbrev pub table_sub : TypeTable → MCtor → TyId → (i : ℕ) → TyId
table_sub t SingleCtor ty i = part_id t ty 0 i
table_sub t (VariantCtor k) ty i = part_id t ty k i
table_sub t PointCtor ty i = inner_id t ty
table_sub t (RowCtor s) ty i = inner_id t ty
table_sub t _ ty i = ty

-- what the context of a table tells: the sets and arities of Rust's types, and the numbers of the types of their parts
abbrev pub table_context : TypeTable → Context TyId
table_context t = record {
  set_of = λ ty. rust_set (table_program t) (table_type t ty);
  arity = λ c ty. rust_arity (table_program t) c (table_type t ty);
  sub = λ c ty i. table_sub t c ty i;
}

-- the values of the type with this number
abbrev pub TableValue : TypeTable → TyId → (sure : Bool) → MValue → Type 0
TableValue t ty sure v = RustValue (table_program t) (table_type t ty) sure v
