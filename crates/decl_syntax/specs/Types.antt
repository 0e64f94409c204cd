-- Written types, without where they lie in memory (Rust Reference, Types).
use Rattle.std.specs.Prelude.{ℕ, Bool, List, [], ◌∷◌, Option, string_bytes}
use Rattle.std.specs.Rc.{rc_str_bytes}
use Rattle.decl_syntax.specs.declared.ty.Ty.{Ty}
use Rattle.decl_syntax.specs.declared.ty.Ty.TheOpen as open_ty
use Rattle.decl_syntax.specs.declared.ty.Ty.TheOpen.{Ty-F}
use Rattle.decl_syntax.specs.declared.ty.Ty.TheFolds.{fold-Ty}

-- a type as it is written, and a list of such types
mutual
  pub data TypeTree : Type 0 where
    Never : TypeTree
    Tuple : TypeTrees → TypeTree
    Point : Bool → TypeTree → TypeTree
    Slice : TypeTree → TypeTree
    Array : TypeTree → Option ℕ → List ℕ → TypeTree
    Named : List ℕ → TypeTrees → TypeTree

  pub data TypeTrees : Type 0 where
    none : TypeTrees
    more : TypeTree → TypeTrees → TypeTrees

-- the types of a list
abbrev pub types_from : List TypeTree → TypeTrees
types_from [] = none
types_from (t ∷ ts) = more t (types_from ts)

-- one level of a type, with what its parts are in their place
abbrev pub type_step : Ty-F TypeTree → TypeTree
type_step open_ty.Never = Never
type_step (open_ty.Tuple parts) = Tuple (types_from parts.items)
type_step (open_ty.Point mutable inner) = Point mutable inner.value
type_step (open_ty.Slice item) = Slice item.value
type_step (open_ty.Array item size) = Array item.value size.value.len (string_bytes size.value.suffix)
type_step (open_ty.Named name args) = Named (rc_str_bytes name) (types_from args.items)

-- what a caller sees of a type
abbrev pub type_view : Ty → TypeTree
type_view = fold-Ty TypeTree type_step
