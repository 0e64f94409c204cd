-- The name by which a variant is written names the variant.
use Rattle.std.proofs.Common.{◌≡◌, ℕ, true, List, slice_get, Option, Some, None, option_map, refl, ap, ◌∙◌}
use Rattle.match_model.specs.Types.{DeclaredItem, OptionOwner, ResultOwner, MType, BoolType, CharType, StrType, NeverType, IntType, OpaqueType, TupleType, PointType, SliceType, ArrayType, NamedType, MTypes}
use Rattle.match_model.specs.Declarations.{MVariant, MItem, StructItem, EnumItem, OtherItem, MProgram, variants_of}
use Rattle.match_model.specs.Places.{found_if}
use Rattle.type_names.specs.Meanings.{is_name}
use Rattle.type_table.specs.Lookups.{variant_named}
use Rattle.type_table.specs.Readers.{is_enum_item, enum_owner, item_name}
use Rattle.value_text.specs.Names.{owner_text, enum_name, path_number, form_with, form_named}
use Rattle.witness_names.specs.Named.{declared_name, form_name}
use Rattle.value_laws.proofs.OwnNames.{same_name}

module _ (program : MProgram) where
  -- the name of an enum is the one that stands in front of its variants
  named_by_item : (o : Option MItem) (i : ℕ) (ts : MTypes) (name : List ℕ) → slice_get program.items i ≡ o →
      path_number program (NamedType (DeclaredItem i) ts) (declared_name o name)
      ≡ variant_named (variants_of program (NamedType (DeclaredItem i) ts)) name
  named_by_item None i ts name e = refl
  named_by_item (Some (StructItem v)) i ts name e = refl
  named_by_item (Some OtherItem) i ts name e = refl
  named_by_item (Some (EnumItem n marked variants)) i ts name e =
      let t = NamedType (DeclaredItem i) ts in
      let is_enum : is_enum_item (slice_get program.items i) ≡ true = ap is_enum_item e in
      let owner : enum_owner program (Some (DeclaredItem i)) ≡ Some (DeclaredItem i) = rw is_enum refl in
      let named : enum_name program t ≡ Some n = ap (owner_text program) owner ∙ ap item_name e in
      ap (λ b. found_if b (variant_named (variants_of program t) name)) (ap (is_name n) named ∙ same_name n)

  path_found : (t : MType) (name : List ℕ) → path_number program t (form_name program t name) ≡ variant_named (variants_of program t) name
  path_found (NamedType (DeclaredItem i) ts) name = named_by_item (slice_get program.items i) i ts name refl
  path_found (NamedType OptionOwner ts) name = refl
  path_found (NamedType ResultOwner ts) name = refl
  path_found BoolType name = refl
  path_found CharType name = refl
  path_found StrType name = refl
  path_found NeverType name = refl
  path_found (IntType kind) name = refl
  path_found (OpaqueType o ts) name = refl
  path_found (TupleType ts) name = refl
  path_found (PointType mutable t) name = refl
  path_found (SliceType t) name = refl
  path_found (ArrayType t n) name = refl

  -- the form of a variant of the type, by the variant's name
  pub form_found : (t : MType) (k : ℕ) (v : MVariant) → slice_get (variants_of program t) k ≡ Some v →
      variant_named (variants_of program t) v.name ≡ Some k → form_named program t (form_name program t v.name) ≡ Some (k, v.form)
  form_found t k v there own =
      ap (form_with program t) (path_found t v.name ∙ own) ∙ ap (option_map (λ (u : MVariant). (k, u.form))) there
