-- Which types have a variant with which number.
use Rattle.std.proofs.Common.{◌≡◌, ℕ, zero, suc, Bool, false, Option, Some, None, is_some, nat_eq, refl, ◌∙◌}
use Rattle.std.specs.Prelude.{option_map}
use Rattle.match_model.specs.Types.{MOwner, MType, TupleType, NamedType, MTypes}
use Rattle.match_model.specs.Declarations.{MProgram, MVariant, node_types, variant_types}
use Rattle.type_names.specs.declared.meanings.Base.{Base}
use Rattle.type_names.specs.Views.{base_view}
use Rattle.type_table.proofs.FieldLemmas.{base_cases, no_zero}
use Rattle.type_table.specs.Tables.{type_variant, variant_name_of}

pub base_variant : (program : MProgram) (b : Base) (k : ℕ) → false ≡ is_some (node_types program (base_view b) k)
base_variant program b k = base_cases (λ t. false ≡ is_some (node_types program t k)) refl refl refl refl (λ kind. refl) b

pub tuple_variant : (program : MProgram) (ts : MTypes) (k : ℕ) → nat_eq k 0 ≡ is_some (node_types program (TupleType ts) k)
tuple_variant program ts zero = refl
tuple_variant program ts (suc k) = no_zero k

pub named_variant : (program : MProgram) (o : MOwner) (args : MTypes) (k : ℕ) (b : Bool) → b ≡ is_some (variant_name_of (type_variant program (NamedType o args) k)) →
    b ≡ is_some (node_types program (NamedType o args) k)
named_variant program o args k b e = e ∙ by (type_variant program (NamedType o args) k)
  where
    by : (v : Option MVariant) → is_some (variant_name_of v) ≡ is_some (variant_types v)
    by None = refl
    by (Some v) = refl

pub some_mapped : {A B : Type 0} (f : A → B) (o : Option A) → is_some (option_map f o) ≡ is_some o
some_mapped f None = refl
some_mapped f (Some x) = refl
