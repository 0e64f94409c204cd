-- How the struct or variant of a type is declared, by what the table's file says.
use Rattle.std.proofs.Common.{◌≡◌, ℕ, zero, suc, Bool, true, false, List, [], ◌∷◌, map, Option, Some, None, is_some, slice_get, refl, sym, ap, ◌∙◌}
use Rattle.std.specs.Prelude.{option_map, IfSome, if◌then◌else◌}
use Rattle.std.proofs.lemmas.Option.{slice_get-map}
use Rattle.match_model.specs.declared.Width.{Width}
use Rattle.match_model.specs.Types.{MOwner, DeclaredItem, OptionOwner, ResultOwner, MType, BoolType, CharType, StrType, NeverType, IntType, OpaqueType, TupleType, PointType, SliceType, ArrayType, NamedType, MTypes, no_types}
use Rattle.match_model.specs.Declarations.{MForm, UnitForm, TupleForm, BraceForm, MVariant, MItem, StructItem, EnumItem, OtherItem, MProgram, item_variants}
use Rattle.decl_syntax.specs.Items.{FormTree, Unit, VariantTree, KindTree, Enum, Struct, Import, Function, ItemTree}
use Rattle.decl_syntax.specs.Items as forms
use Rattle.type_names.specs.declared.meanings.FormKind.{FormKind}
use Rattle.type_names.specs.declared.meanings.FormKind.TheVariants as kinds
use Rattle.type_names.specs.Finding.{kind_form, struct_form}
use Rattle.type_names.specs.Imports as imports
use Rattle.type_names.specs.Imports.{form_kind, named_variant, owner_variants, form_at}
use Rattle.type_names.specs.Meanings.{Means, means}
use Rattle.type_names.specs.Written.{form_of, variant_of, kind_of, item_of, is_marked_by}
use Rattle.type_table.specs.declared.table.TypeTable.{TypeTable}
use Rattle.type_table.specs.Readers.{type_owner, is_enum_item, enum_owner}
use Rattle.type_table.specs.Tables.{IsTableOf, table_program, is_struct, is_struct_type, type_variant}
use Rattle.type_table.proofs.PlainTypes.{table_variants}
use Rattle.value_text.specs.Names.{form_with, unit_of, tuple_of, brace_of}
use Rattle.value_text.specs.Lookups.{kind_of_form, kind_there, kind_numbered, if_unit, if_tuple, if_brace, parts_there, fields_there, IsBrace, IsDeclaredStruct}
use Rattle.value_text.proofs.MeantValues.{form_types_are, types_back}

form_written : (names : Means) (form : FormTree) → form_kind form ≡ kind_of_form (form_of names form)
form_written names Unit = refl
form_written names (forms.Tuple fields) = refl
form_written names (forms.Brace fields) = refl

-- structs

kind_struct : (names : Means) (marked : Bool) (kind : KindTree) (v : MVariant) →
    kind_of names marked kind ≡ StructItem v → kind_form kind ≡ Some (kind_of_form v.form)
kind_struct names marked (Struct name form) v h =
    let same : form_of names form ≡ v.form = cc in
    ap Some (form_written names form ∙ ap kind_of_form same)
kind_struct names marked (Enum name variants) v h = cc
kind_struct names marked (Import owner listed) v h = cc
kind_struct names marked (Function name parameter deref arms) v h = cc

item_struct : (names : Means) (o : Option ItemTree) (v : MVariant) →
    option_map (item_of names) o ≡ Some (StructItem v) → struct_form o ≡ Some (kind_of_form v.form)
item_struct names None v h = cc
item_struct names (Some i) v h =
    let same : item_of names i ≡ StructItem v = cc in
    kind_struct names (is_marked_by i.attrs) i.kind v same

-- variants

variants_written : (names : Means) (vs : List VariantTree) (k : ℕ) →
    form_at (map named_variant vs) (Some k) ≡ kind_there (slice_get (map (variant_of names) vs) k)
variants_written names [] k = refl
variants_written names (v ∷ vs) zero = ap Some (form_written names v.form)
variants_written names (v ∷ vs) (suc k) = variants_written names vs k

kind_variants : (names : Means) (marked : Bool) (kind : KindTree) (k : ℕ) →
    is_struct (Some (kind_of names marked kind)) ≡ false →
    form_at (map named_variant (imports.kind_variants kind)) (Some k)
    ≡ kind_there (slice_get (item_variants (Some (kind_of names marked kind))) k)
kind_variants names marked (Struct name form) k h = cc
kind_variants names marked (Enum name variants) k h = variants_written names variants k
kind_variants names marked (Import owner listed) k h = refl
kind_variants names marked (Function name parameter deref arms) k h = refl

variants_at : (names : Means) (o : Option ItemTree) (k : ℕ) → is_struct (option_map (item_of names) o) ≡ false →
    form_at (map named_variant (imports.item_variants o)) (Some k)
    ≡ kind_there (slice_get (item_variants (option_map (item_of names) o)) k)
variants_at names None k h = refl
variants_at names (Some i) k h = kind_variants names (is_marked_by i.attrs) i.kind k h

option_kinds : (program : MProgram) (ts : MTypes) (k : ℕ) →
    form_at (owner_variants [] OptionOwner) (Some k) ≡ kind_there (type_variant program (NamedType OptionOwner ts) k)
option_kinds program ts zero = refl
option_kinds program ts (suc zero) = refl
option_kinds program ts (suc (suc k)) = refl

result_kinds : (program : MProgram) (ts : MTypes) (k : ℕ) →
    form_at (owner_variants [] ResultOwner) (Some k) ≡ kind_there (type_variant program (NamedType ResultOwner ts) k)
result_kinds program ts zero = refl
result_kinds program ts (suc zero) = refl
result_kinds program ts (suc (suc k)) = refl

-- an enum type is named by its owner
enum_of_item : (b : Bool) (i : ℕ) (o : MOwner) → (if b then Some (DeclaredItem i) else None) ≡ Some o → DeclaredItem i ≡ o
enum_of_item true i o h = cc
enum_of_item false i o h = cc

pub enum_named : (program : MProgram) (t : MType) (o : MOwner) → enum_owner program (type_owner t) ≡ Some o →
    (ts : MTypes) × (t ≡ NamedType o ts)
enum_named program (NamedType (DeclaredItem i) ts) o h =
    (ts, ap (λ (w : MOwner). NamedType w ts) (enum_of_item (is_enum_item (slice_get program.items i)) i o h))
enum_named program (NamedType OptionOwner ts) o h = let same : OptionOwner ≡ o = cc in (ts, ap (λ (w : MOwner). NamedType w ts) same)
enum_named program (NamedType ResultOwner ts) o h = let same : ResultOwner ≡ o = cc in (ts, ap (λ (w : MOwner). NamedType w ts) same)
enum_named program BoolType o h = cc
enum_named program CharType o h = cc
enum_named program StrType o h = cc
enum_named program NeverType o h = cc
enum_named program (IntType kind) o h = cc
enum_named program (OpaqueType n ts) o h = cc
enum_named program (TupleType ts) o h = cc
enum_named program (PointType mutable t) o h = cc
enum_named program (SliceType t) o h = cc
enum_named program (ArrayType t n) o h = cc

-- by the file

module _ (items : List ItemTree) (width : Width) (table : TypeTable) (is : IsTableOf items width table) where
  pub item_at : (i : ℕ) → slice_get (table_program table).items i ≡ option_map (item_of (means items)) (slice_get items i)
  item_at i = ap (λ (p : MProgram). slice_get p.items i) is.program ∙ slice_get-map (item_of (means items)) items i

  -- a struct is declared so
  pub struct_told : (t : MType) (s : IsDeclaredStruct (table_program table) t) →
      struct_form (slice_get items s.0) ≡ kind_there (type_variant (table_program table) t 0)
  struct_told t s =
      let program = table_program table in
      let there : type_variant program t 0 ≡ Some s.1 =
      ap (λ (u : MType). type_variant program u 0) s.2
      ∙ (ap (λ (vs : List MVariant). slice_get vs 0) (table_variants table s.0 no_types) ∙ ap (λ (o : Option MItem). slice_get (item_variants o) 0) s.3) in
      item_struct (means items) (slice_get items s.0) s.1 (sym (item_at s.0) ∙ s.3) ∙ ap kind_there (sym there)

  variant_written : (o : MOwner) (ts : MTypes) (k : ℕ) →
      is_struct_type (table_program table) (NamedType o ts) ≡ false →
      is_some (type_variant (table_program table) (NamedType o ts) k) ≡ true →
      form_at (owner_variants items o) (Some k) ≡ kind_there (type_variant (table_program table) (NamedType o ts) k)
  variant_written (DeclaredItem i) ts k s h =
      variants_at (means items) (slice_get items i) k (sym (ap is_struct (item_at i)) ∙ s)
      ∙ (ap (λ (o : Option MItem). kind_there (slice_get (item_variants o) k)) (sym (item_at i))
      ∙ ap (λ (vs : List MVariant). kind_there (slice_get vs k)) (sym (table_variants table i ts)))
  variant_written OptionOwner ts k s h = option_kinds (table_program table) ts k
  variant_written ResultOwner ts k s h = result_kinds (table_program table) ts k

  -- a variant of an enum is declared so
  pub enum_told : (t : MType) (k : ℕ) (o : MOwner) → is_struct_type (table_program table) t ≡ false →
      is_some (type_variant (table_program table) t k) ≡ true → Some o ≡ enum_owner (table_program table) (type_owner t) →
      form_at (owner_variants items o) (Some k) ≡ kind_there (type_variant (table_program table) t k)
  enum_told t k o s h e =
      let program = table_program table in
      let named = enum_named program t o (sym e) in
      variant_written o named.0 k (sym (ap (is_struct_type program) named.1) ∙ s)
      (sym (ap (λ (u : MType). is_some (type_variant program u k)) named.1) ∙ h)
      ∙ ap (λ (u : MType). kind_there (type_variant program u k)) (sym named.1)

-- what is told by the way in which it is declared

module _ (program : MProgram) (t : MType) where
  pub unit_told : (n : Option ℕ) → if_unit (kind_numbered program t n) ≡ unit_of (form_with program t n)
  unit_told None = refl
  unit_told (Some k) = by (type_variant program t k)
    where
      form_by : (f : MForm) → if_unit (Some (k, kind_of_form f)) ≡ unit_of (Some (k, f))
      form_by UnitForm = refl
      form_by (TupleForm types) = refl
      form_by (BraceForm fields) = refl

      by : (o : Option MVariant) → if_unit (option_map (λ kind. (k, kind)) (kind_there o)) ≡ unit_of (option_map (λ v. (k, v.form)) o)
      by None = refl
      by (Some v) = form_by v.form

  pub tuple_told : (n : Option ℕ) → option_map (λ k. (k, parts_there program t k)) (if_tuple (kind_numbered program t n)) ≡ tuple_of (form_with program t n)
  tuple_told None = refl
  tuple_told (Some k) = by (type_variant program t k) refl
    where
      parts : (types : List MType) (v : MVariant) → type_variant program t k ≡ Some v → v.form ≡ TupleForm types → parts_there program t k ≡ types
      parts types v e f = rw (form_types_are program t k v e, f) (types_back types)

      form_by : (v : MVariant) → type_variant program t k ≡ Some v → (f : MForm) → v.form ≡ f →
          option_map (λ k. (k, parts_there program t k)) (if_tuple (Some (k, kind_of_form f))) ≡ tuple_of (Some (k, f))
      form_by v e UnitForm f = refl
      form_by v e (TupleForm types) f = ap (λ (ts : List MType). Some (k, ts)) (parts types v e f)
      form_by v e (BraceForm fields) f = refl

      by : (o : Option MVariant) → type_variant program t k ≡ o →
          option_map (λ k. (k, parts_there program t k)) (if_tuple (option_map (λ kind. (k, kind)) (kind_there o))) ≡ tuple_of (option_map (λ v. (k, v.form)) o)
      by None e = refl
      by (Some v) e = form_by v e v.form refl

  pub brace_told : (n : Option ℕ) → option_map (λ k. (k, fields_there program t k)) (if_brace (kind_numbered program t n)) ≡ brace_of (form_with program t n)
  brace_told None = refl
  brace_told (Some k) = by (type_variant program t k) refl
    where
      form_by : (v : MVariant) → type_variant program t k ≡ Some v → (f : MForm) → v.form ≡ f →
          option_map (λ k. (k, fields_there program t k)) (if_brace (Some (k, kind_of_form f))) ≡ brace_of (Some (k, f))
      form_by v e UnitForm f = refl
      form_by v e (TupleForm types) f = refl
      form_by v e (BraceForm fields) f = rw (e, f) refl

      by : (o : Option MVariant) → type_variant program t k ≡ o →
          option_map (λ k. (k, fields_there program t k)) (if_brace (option_map (λ kind. (k, kind)) (kind_there o))) ≡ brace_of (option_map (λ v. (k, v.form)) o)
      by None e = refl
      by (Some v) e = form_by v e v.form refl

  -- what is declared with named fields
  pub brace_kept : (n : Option ℕ) (k : ℕ) → Some k ≡ if_brace (kind_numbered program t n) → IsBrace program t k
  brace_kept None k h = absurd cc
  brace_kept (Some j) k h = by (kind_there (type_variant program t j)) refl h
    where
      by : (o : Option FormKind) → kind_there (type_variant program t j) ≡ o → Some k ≡ if_brace (option_map (λ kind. (j, kind)) o) → IsBrace program t k
      by None e f = absurd cc
      by (Some kinds.Unit) e f = absurd cc
      by (Some kinds.Tuple) e f = absurd cc
      by (Some kinds.Brace) e f = let same : k ≡ j = cc in rw same e

  pub braces_kept : (n : Option ℕ) (o : Option ℕ) → o ≡ if_brace (kind_numbered program t n) → IfSome o (IsBrace program t)
  braces_kept n None h = tt
  braces_kept n (Some k) h = brace_kept n k h
