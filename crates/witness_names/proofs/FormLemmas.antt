-- How the struct or variant of a type is written, and its name, by what the table's file says.
use Rattle.std.proofs.Common.{◌≡◌, ℕ, zero, suc, Bool, true, false, List, [], ◌∷◌, map, Option, Some, None, is_some, slice_get, refl, sym, ap, ◌∙◌}
use Rattle.std.specs.Prelude.{option_map, if◌then◌else◌}
use Rattle.std.proofs.lemmas.Option.{slice_get-map}
use Rattle.match_model.specs.declared.Width.{Width}
use Rattle.match_model.specs.Types.{MOwner, DeclaredItem, OptionOwner, ResultOwner, MType, BoolType, CharType, StrType, NeverType, IntType, OpaqueType, TupleType, PointType, SliceType, ArrayType, NamedType, MTypes, no_types}
use Rattle.match_model.specs.Declarations.{MVariant, MItem, StructItem, EnumItem, OtherItem, MProgram, item_variants}
use Rattle.decl_syntax.specs.Items.{FormTree, Unit, VariantTree, KindTree, Enum, Struct, Import, Function, ItemTree}
use Rattle.decl_syntax.specs.Items as forms
use Rattle.type_names.specs.declared.meanings.FormKind.{FormKind}
use Rattle.type_names.specs.Finding.{kind_form, struct_form}
use Rattle.type_names.specs.Imports as imports
use Rattle.type_names.specs.Imports.{form_kind, named_variant, owner_variants, form_at}
use Rattle.type_names.specs.Meanings.{Means, means}
use Rattle.type_names.specs.Written.{form_of, variant_of, kind_of, item_of, is_marked_by}
use Rattle.type_table.specs.declared.table.TypeTable.{TypeTable}
use Rattle.type_table.specs.Readers.{type_owner, is_enum_item, enum_owner, owner_name, item_name}
use Rattle.type_table.specs.Tables.{IsTableOf, table_program, is_struct, is_struct_type, type_variant, variant_name_of}
use Rattle.witness_text.specs.Trees.{NameTree, PlainName, VariantName}
use Rattle.type_table.proofs.PlainTypes.{table_variants}
use Rattle.witness_names.specs.declared.paths.Paths.{Paths}
use Rattle.witness_names.specs.Named.{name_by, declared_name, built_in_name}
use Rattle.witness_names.specs.Lookups.{kind_of_form, form_told, form_there, built_in_owner, IsDeclaredStruct}

-- the way of writing a variant, where there is one
abbrev pub kind_there : Option MVariant → Option FormKind
kind_there o = option_map (λ v. kind_of_form v.form) o

form_written : (names : Means) (form : FormTree) → form_kind form ≡ kind_of_form (form_of names form)
form_written names Unit = refl
form_written names (forms.Tuple fields) = refl
form_written names (forms.Brace fields) = refl

-- structs

kind_struct : (names : Means) (marked : Bool) (kind : KindTree) (v : MVariant) →
    kind_of names marked kind ≡ StructItem v → kind_form kind ≡ Some (kind_of_form v.form)
kind_struct names marked (Struct name form) v h =
    let same : form_of names form ≡ v.form = cc in
    ap Some (form_written names form ∙ ap kind_of_form same)
kind_struct names marked (Enum name variants) v h = cc
kind_struct names marked (Import owner listed) v h = cc
kind_struct names marked (Function name parameter deref arms) v h = cc

item_struct : (names : Means) (o : Option ItemTree) (v : MVariant) →
    option_map (item_of names) o ≡ Some (StructItem v) → struct_form o ≡ Some (kind_of_form v.form)
item_struct names None v h = cc
item_struct names (Some i) v h =
    let same : item_of names i ≡ StructItem v = cc in
    kind_struct names (is_marked_by i.attrs) i.kind v same

-- variants

variants_written : (names : Means) (vs : List VariantTree) (k : ℕ) →
    form_at (map named_variant vs) (Some k) ≡ kind_there (slice_get (map (variant_of names) vs) k)
variants_written names [] k = refl
variants_written names (v ∷ vs) zero = ap Some (form_written names v.form)
variants_written names (v ∷ vs) (suc k) = variants_written names vs k

kind_variants : (names : Means) (marked : Bool) (kind : KindTree) (k : ℕ) →
    is_struct (Some (kind_of names marked kind)) ≡ false →
    form_at (map named_variant (imports.kind_variants kind)) (Some k)
    ≡ kind_there (slice_get (item_variants (Some (kind_of names marked kind))) k)
kind_variants names marked (Struct name form) k h = cc
kind_variants names marked (Enum name variants) k h = variants_written names variants k
kind_variants names marked (Import owner listed) k h = refl
kind_variants names marked (Function name parameter deref arms) k h = refl

variants_at : (names : Means) (o : Option ItemTree) (k : ℕ) → is_struct (option_map (item_of names) o) ≡ false →
    form_at (map named_variant (imports.item_variants o)) (Some k)
    ≡ kind_there (slice_get (item_variants (option_map (item_of names) o)) k)
variants_at names None k h = refl
variants_at names (Some i) k h = kind_variants names (is_marked_by i.attrs) i.kind k h

option_kinds : (program : MProgram) (ts : MTypes) (k : ℕ) →
    form_at (owner_variants [] OptionOwner) (Some k) ≡ kind_there (type_variant program (NamedType OptionOwner ts) k)
option_kinds program ts zero = refl
option_kinds program ts (suc zero) = refl
option_kinds program ts (suc (suc k)) = refl

result_kinds : (program : MProgram) (ts : MTypes) (k : ℕ) →
    form_at (owner_variants [] ResultOwner) (Some k) ≡ kind_there (type_variant program (NamedType ResultOwner ts) k)
result_kinds program ts zero = refl
result_kinds program ts (suc zero) = refl
result_kinds program ts (suc (suc k)) = refl

-- by the file

module _ (items : List ItemTree) (width : Width) (table : TypeTable) (is : IsTableOf items width table) where
  item_at : (i : ℕ) → slice_get (table_program table).items i ≡ option_map (item_of (means items)) (slice_get items i)
  item_at i = ap (λ (p : MProgram). slice_get p.items i) is.program ∙ slice_get-map (item_of (means items)) items i

  -- a struct is written so
  pub struct_written : (i : ℕ) (v : MVariant) → slice_get (table_program table).items i ≡ Some (StructItem v) →
      struct_form (slice_get items i) ≡ Some (kind_of_form v.form)
  struct_written i v h = item_struct (means items) (slice_get items i) v (sym (item_at i) ∙ h)

  -- a variant of an enum is written so
  pub variant_written : (o : MOwner) (ts : MTypes) (k : ℕ) →
      is_struct_type (table_program table) (NamedType o ts) ≡ false →
      is_some (type_variant (table_program table) (NamedType o ts) k) ≡ true →
      form_at (owner_variants items o) (Some k) ≡ kind_there (type_variant (table_program table) (NamedType o ts) k)
  variant_written (DeclaredItem i) ts k s h =
      variants_at (means items) (slice_get items i) k (sym (ap is_struct (item_at i)) ∙ s)
      ∙ (ap (λ (o : Option MItem). kind_there (slice_get (item_variants o) k)) (sym (item_at i))
      ∙ ap (λ (vs : List MVariant). kind_there (slice_get vs k)) (sym (table_variants table i ts)))
  variant_written OptionOwner ts k s h = option_kinds (table_program table) ts k
  variant_written ResultOwner ts k s h = result_kinds (table_program table) ts k

-- names

declared_behind : (o : Option MItem) (name owner : List ℕ) → is_struct o ≡ false → item_name o ≡ Some owner →
    declared_name o name ≡ VariantName owner name
declared_behind None name owner s h = cc
declared_behind (Some (StructItem v)) name owner s h = cc
declared_behind (Some (EnumItem n marked variants)) name owner s h = let same : n
    ≡ owner = cc in ap (λ m. VariantName m name) same
declared_behind (Some OtherItem) name owner s h = cc

-- a variant of an enum that an item declares stands behind the enum's name
pub name_behind : (paths : Paths) (program : MProgram) (t : MType) (name owner : List ℕ) → is_struct_type program t ≡ false →
    owner_name program (type_owner t) ≡ Some owner →
    name_by paths program t name ≡ VariantName owner name
name_behind paths program (NamedType (DeclaredItem i) ts) name owner s h = declared_behind (slice_get program.items i) name
    owner s h
name_behind paths program (NamedType OptionOwner ts) name owner s h = cc
name_behind paths program (NamedType ResultOwner ts) name owner s h = cc
name_behind paths program BoolType name owner s h = cc
name_behind paths program CharType name owner s h = cc
name_behind paths program StrType name owner s h = cc
name_behind paths program NeverType name owner s h = cc
name_behind paths program (IntType kind) name owner s h = cc
name_behind paths program (OpaqueType o ts) name owner s h = cc
name_behind paths program (TupleType ts) name owner s h = cc
name_behind paths program (PointType mutable t) name owner s h = cc
name_behind paths program (SliceType t) name owner s h = cc
name_behind paths program (ArrayType t n) name owner s h = cc

declared_owner : {A : Type 0} (item : Option MItem) (i : ℕ) (o : MOwner) → item_name item ≡ None →
    Some o ≡ (if is_enum_item item then Some (DeclaredItem i) else None) → A
declared_owner None i o h e = cc
declared_owner (Some (StructItem v)) i o h e = cc
declared_owner (Some (EnumItem n marked variants)) i o h e = cc
declared_owner (Some OtherItem) i o h e = cc

-- a variant of an enum that no item declares
pub name_built_in : (paths : Paths) (program : MProgram) (t : MType) (name : List ℕ) (o : MOwner) →
    owner_name program (type_owner t) ≡ None → Some o ≡ enum_owner program (type_owner t) →
    name_by paths program t name ≡ built_in_name paths (built_in_owner o) name
name_built_in paths program (NamedType (DeclaredItem i) ts) name o h e = declared_owner (slice_get program.items i) i o
    h e
name_built_in paths program (NamedType OptionOwner ts) name o h e = let same : OptionOwner
    ≡ o = cc in ap (λ (w : MOwner). built_in_name paths (built_in_owner w) name) same
name_built_in paths program (NamedType ResultOwner ts) name o h e = let same : ResultOwner
    ≡ o = cc in ap (λ (w : MOwner). built_in_name paths (built_in_owner w) name) same
name_built_in paths program BoolType name o h e = cc
name_built_in paths program CharType name o h e = cc
name_built_in paths program StrType name o h e = cc
name_built_in paths program NeverType name o h e = cc
name_built_in paths program (IntType kind) name o h e = cc
name_built_in paths program (OpaqueType n ts) name o h e = cc
name_built_in paths program (TupleType ts) name o h e = cc
name_built_in paths program (PointType mutable t) name o h e = cc
name_built_in paths program (SliceType t) name o h e = cc
name_built_in paths program (ArrayType t n) name o h e = cc

-- a struct's name stands alone
pub name_of_struct : (paths : Paths) (program : MProgram) (i : ℕ) (ts : MTypes) (v : MVariant) (name : List ℕ) →
    slice_get program.items i ≡ Some (StructItem v) →
    name_by paths program (NamedType (DeclaredItem i) ts) name ≡ PlainName name
name_of_struct paths program i ts v name h = ap (λ (o : Option MItem). declared_name o name) h

-- the way of writing and the name, from each by itself
pub form_joined : (paths : Paths) (program : MProgram) (t : MType) (o : Option MVariant) (kind : FormKind) (name : NameTree) →
    kind_there o ≡ Some kind →
    option_map (λ v. name_by paths program t v.name) o ≡ Some name → Some (kind, name) ≡ option_map (form_told paths program t) o
form_joined paths program t None kind name k n = cc
form_joined paths program t (Some v) kind name k n =
    let same : kind ≡ kind_of_form v.form = cc in
    let alike : name ≡ name_by paths program t v.name = cc in
    ap Some (ap (λ f. (f, name)) same ∙ ap (λ m. (kind_of_form v.form, m)) alike)

-- the name of a variant that is there
pub name_found : (paths : Paths) (program : MProgram) (t : MType) (o : Option MVariant) (name : List ℕ) (tree : NameTree) →
    variant_name_of o ≡ Some name → name_by paths program t name ≡ tree →
    option_map (λ v. name_by paths program t v.name) o ≡ Some tree
name_found paths program t None name tree n e = cc
name_found paths program t (Some v) name tree n e =
    let same : v.name ≡ name = cc in
    ap Some (ap (name_by paths program t) same ∙ e)

-- an enum type is named by its owner
enum_of_item : (b : Bool) (i : ℕ) (o : MOwner) → (if b then Some (DeclaredItem i) else None) ≡ Some o →
    DeclaredItem i ≡ o
enum_of_item true i o h = cc
enum_of_item false i o h = cc

pub enum_named : (program : MProgram) (t : MType) (o : MOwner) → enum_owner program (type_owner t) ≡ Some o →
    (ts : MTypes) × (t ≡ NamedType o ts)
enum_named program (NamedType (DeclaredItem i) ts) o h = (
  ts,
  ap (λ (w : MOwner). NamedType w ts) (enum_of_item
      (is_enum_item (slice_get program.items i)) i o h),
)
enum_named program (NamedType OptionOwner ts) o h = let same : OptionOwner
    ≡ o = cc in (ts, ap (λ (w : MOwner). NamedType w ts) same)
enum_named program (NamedType ResultOwner ts) o h = let same : ResultOwner
    ≡ o = cc in (ts, ap (λ (w : MOwner). NamedType w ts) same)
enum_named program BoolType o h = cc
enum_named program CharType o h = cc
enum_named program StrType o h = cc
enum_named program NeverType o h = cc
enum_named program (IntType kind) o h = cc
enum_named program (OpaqueType n ts) o h = cc
enum_named program (TupleType ts) o h = cc
enum_named program (PointType mutable t) o h = cc
enum_named program (SliceType t) o h = cc
enum_named program (ArrayType t n) o h = cc

module _ (items : List ItemTree) (width : Width) (table : TypeTable) (is : IsTableOf items width table) (t : MType)
    (k : ℕ) where
  -- the form of a struct, by what was found
  pub struct_told : (paths : Paths) (s : IsDeclaredStruct (table_program table) t) (kind : FormKind) (name : List ℕ) → k ≡ 0 →
      Some kind ≡ struct_form (slice_get items s.0) →
      variant_name_of (type_variant (table_program table) t k) ≡ Some name →
      Some (kind, PlainName name) ≡ form_there paths (table_program table) t k
  struct_told paths s kind name z f n =
      let program = table_program table in
      let there : type_variant program t k ≡ Some s.1 =
      ap (type_variant program t) z ∙ (ap (λ (u : MType). type_variant program u 0) s.2
      ∙ (ap (λ (vs : List MVariant). slice_get vs 0) (table_variants table s.0 no_types)
      ∙ ap (λ (o : Option MItem). slice_get (item_variants o) 0) s.3)) in
      let written : kind_there (type_variant program t k) ≡ Some kind = ap kind_there there ∙ sym (f
      ∙ struct_written items width table is s.0 s.1 s.3) in
      let alone : name_by paths program t name ≡ PlainName name = ap (λ (u : MType). name_by paths program u name) s.2
      ∙ name_of_struct paths program s.0 no_types s.1 name s.3 in
      form_joined paths program t (type_variant program t k) kind (PlainName name) written (name_found paths program t
      (type_variant program t k) name (PlainName name) n alone)

  -- the way of writing a variant of an enum, by what was found
  pub enum_told : (o : MOwner) → is_struct_type (table_program table) t ≡ false →
      is_some (type_variant (table_program table) t k) ≡ true →
      Some o ≡ enum_owner (table_program table) (type_owner t) →
      form_at (owner_variants items o) (Some k) ≡ kind_there (type_variant (table_program table) t k)
  enum_told o s h e =
      let program = table_program table in
      let named = enum_named program t o (sym e) in
      variant_written items width table is o named.0 k (sym (ap (is_struct_type program) named.1)
      ∙ s) (sym (ap (λ (u : MType). is_some (type_variant program u k)) named.1) ∙ h)
      ∙ ap (λ (u : MType). kind_there (type_variant program u k)) (sym named.1)

-- a variant that is there is written in some way
pub some_kind : {A : Type 0} (o : Option MVariant) → is_some o ≡ true → None ≡ kind_there o → A
some_kind None h e = cc
some_kind (Some v) h e = cc
