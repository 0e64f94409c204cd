-- No meaning: a reading of what a table keeps of emptiness: of each type a mark, by which a type and a variant are found to have a value
-- or none.
use Rattle.std.specs.Prelude.{ℕ, zero, suc, Bool, false, not, ◌||◌, is_some, slice_index_or, Option, Some, None}
use Rattle.match_model.specs.Declarations.{node_types}
use Rattle.type_table.specs.declared.table.TypeTable as declared_table
use Rattle.type_table.specs.declared.table.TyId as declared_id
use Rattle.type_table.specs.Parts.{part_there}
use Rattle.type_table.specs.Tables.{table_program, table_type, fields_of_type}

-- by the marks the type has no value
abbrev pub found_empty : declared_table.TypeTable → declared_id.TyId → Bool
found_empty t ty = not (slice_index_or t.values.items ty.index false)

-- by the marks the type that may be there has no value
abbrev pub lacks_value : declared_table.TypeTable → Option declared_id.TyId → Bool
lacks_value t None = false
lacks_value t (Some ty) = found_empty t ty

-- by the marks one of the first `n` fields of the variant has no value
abbrev pub lacks_field : declared_table.TypeTable → declared_id.TyId → (k n : ℕ) → Bool
lacks_field t ty k zero = false
lacks_field t ty k (suc n) = lacks_field t ty k n || lacks_value t (part_there t ty k n)

-- by the marks the variant has no value: it is not there, or one of its fields has none
abbrev pub found_variant_empty : declared_table.TypeTable → declared_id.TyId → (k : ℕ) → Bool
found_variant_empty t ty k =
    not (is_some (node_types (table_program t) (table_type t ty) k)) || lacks_field t ty k (fields_of_type (table_program t) (table_type t ty) k)
