-- In the types of a file `Option` and `Result` are meant, since they come of these names.
use Rattle.std.proofs.Common.{◌≡◌, ℕ, zero, suc, Bool, true, false, ◌&&◌, List, [], ◌∷◌, map, length, slice_get, Option, Some, None, option_map, nat_eq, refl, sym, ap, subst, ◌∙◌, bytes_eq, codes}
use Rattle.std.specs.Prelude.{⊤, if◌then◌else◌}
use Rattle.std.proofs.lemmas.Slice.Eq.{bytes_eq-Decides}
use Rattle.std.proofs.lemmas.Option.{slice_get-map}
use Rattle.match_model.specs.Types.{MOwner, DeclaredItem, OptionOwner, ResultOwner, MOpaque, StringName, F32Name, F64Name, BoxName, VecName, RcName, ArcName, ParameterName, MType, OpaqueType, TupleType, PointType, SliceType, ArrayType, NamedType, MTypes, no_types, more_types, types_list, types_of}
use Rattle.match_model.specs.Typing.{is_str}
use Rattle.match_model.specs.Declarations.{MField, MForm, UnitForm, TupleForm, BraceForm, MVariant, MItem, argument, opaque_or, filled, filled_all, filled_field, filled_form, filled_variant, form_types, variant_types, item_variants, declared, option_item, result_item, variants_of, node_types}
use Rattle.match_model.specs.RustTypes.{inner_type}
use Rattle.decl_syntax.specs.Types.{TypeTree, TypeTrees}
use Rattle.decl_syntax.specs.Types as written
use Rattle.decl_syntax.specs.Items.{FieldItem, FormTree, Unit, VariantTree, KindTree, Enum, Struct, Import, Function, ItemTree}
use Rattle.decl_syntax.specs.Items as forms
use Rattle.decl_syntax.specs.Functions.{FunctionTree}
use Rattle.type_names.specs.Meanings.{Meaning, ItemName, BaseName, OpaqueName, OptionName, ResultName, means, built_in, built_in_types, entry_of, first_of_two, declared_at, argument_count, arguments_sized}
use Rattle.type_names.specs.Imports.{meant_enum}
use Rattle.type_names.specs.Written.{is_length, array_type, base_type, meant_type, named_type, slice_type, type_of, field_of, form_of, variant_of, kind_of, item_of, is_marked_by}
use Rattle.type_names.specs.Written as file_types
use Rattle.witness_names.specs.Named.{types_there}
use Rattle.pattern_rules.specs.Settings.{Setting, program}
use Rattle.pattern_rules.specs.Faults.{scrutinee_by, scrutinee_type}
use Rattle.arm_laws.specs.MeantTypes.{AreKept, AreMeantTypes, IsMeantType, AreMeantAll}
use Rattle.arm_laws.specs.NamedOnce.{IsMeant}

module _ (s : Setting) where
  -- ---- names

  -- what stands beside a name in the table of types
  abbrev IsEntry : List ℕ → Meaning → Type 0
  IsEntry name (BaseName t) = IsMeantType s t
  IsEntry name OptionName = name ≡ codes "Option"
  IsEntry name ResultName = name ≡ codes "Result"
  IsEntry name _ = ⊤

  abbrev AllEntries : List (List ℕ × Meaning) → Type 0
  AllEntries [] = ⊤
  AllEntries (e ∷ es) = IsEntry e.0 e.1 × AllEntries es

  found_entry : (es : List (List ℕ × Meaning)) (name : List ℕ) (m : Meaning) → AllEntries es →
      entry_of es name ≡ Some m → IsEntry name m
  found_entry [] name m a e = absurd cc
  found_entry (x ∷ es) name m a e = by (bytes_eq name x.0) refl e (λ h. found_entry es name m a.1 h)
    where
      by : (b : Bool) → bytes_eq name x.0 ≡ b → (if b then Some x.1 else entry_of es name) ≡ Some m →
          (entry_of es name ≡ Some m → IsEntry name m) → IsEntry name m
      by true f e rest =
          let same : x.1 ≡ m = cc in
          subst (λ n. IsEntry n m) (sym ((bytes_eq-Decides name x.0).0 f)) (subst (λ k. IsEntry x.0 k) same a.0)
      by false f e rest = rest e

  all_entries : AllEntries built_in_types
  all_entries =
      (tt, (tt, (tt, (tt, (tt, (tt, (tt, (tt, (tt, (tt, (tt, (tt, (tt, (tt, (tt, (tt, (tt, (tt, (tt, (tt, (tt, (tt, (refl, (refl, tt))))))))))))))))))))))))

  built_in_entry : (name : List ℕ) (m : Meaning) → built_in name ≡ Some m → IsEntry name m
  unfolding built_in
  built_in_entry name m e = found_entry built_in_types name m all_entries e

  -- what a name means
  abbrev IsMeaning : Meaning → Type 0
  IsMeaning (BaseName t) = IsMeantType s t
  IsMeaning OptionName = IsMeant s OptionOwner
  IsMeaning ResultName = IsMeant s ResultOwner
  IsMeaning _ = ⊤

  no_item : (i : ℕ) (m : Meaning) → Some (ItemName i) ≡ Some m → m ≡ ItemName i
  no_item i m e = cc

  meaning_found : (name : List ℕ) (m : Meaning) → means s.items name ≡ Some m → IsMeaning m
  meaning_found name m e = by (declared_at s.items name) refl m e
    where
      by : (d : Option ℕ) → declared_at s.items name ≡ d → (m : Meaning) →
          first_of_two (option_map ItemName d) (built_in name) ≡ Some m → IsMeaning m
      by (Some i) f m e = subst (λ k. IsMeaning k) (sym (no_item i m e)) tt
      by None f (BaseName t) e = built_in_entry name (BaseName t) e
      by None f OptionName e =
          let n : name ≡ codes "Option" = built_in_entry name OptionName e in
          ap (λ x. meant_enum s.items (means s.items x)) (sym n)
          ∙ ap (λ d. meant_enum s.items (first_of_two (option_map ItemName d) (built_in name))) f
          ∙ ap (meant_enum s.items) e
      by None f ResultName e =
          let n : name ≡ codes "Result" = built_in_entry name ResultName e in
          ap (λ x. meant_enum s.items (means s.items x)) (sym n)
          ∙ ap (λ d. meant_enum s.items (first_of_two (option_map ItemName d) (built_in name))) f
          ∙ ap (meant_enum s.items) e
      by None f (ItemName i) e = tt
      by None f (OpaqueName o) e = tt

  -- ---- written types

  base_meant : (sized : Bool) (t : MType) → IsMeantType s t → IsMeantType s (base_type sized t)
  base_meant sized t h = by (sized && is_str t)
    where
      by : (b : Bool) → IsMeantType s (if b then file_types.broken_type else t)
      by true = tt
      by false = h

  meaning_type : (sized : Bool) (m : Meaning) (ts : MTypes) → IsMeaning m → AreMeantAll s ts →
      IsMeantType s (meant_type sized m ts)
  meaning_type sized (ItemName i) ts h a = (tt, a)
  meaning_type sized (BaseName t) ts h a = base_meant sized t h
  meaning_type sized (OpaqueName o) ts h a = a
  meaning_type sized OptionName ts h a = (h, a)
  meaning_type sized ResultName ts h a = (h, a)

  named_meant : (sized : Bool) (o : Option Meaning) (ts : MTypes) → ((m : Meaning) → o ≡ Some m → IsMeaning m) →
      AreMeantAll s ts → IsMeantType s (named_type sized o ts)
  named_meant sized None ts h a = tt
  named_meant sized (Some m) ts h a = by (nat_eq (length (types_list ts)) (argument_count m))
    where
      by : (b : Bool) → IsMeantType s (if b then meant_type sized m ts else file_types.broken_type)
      by true = meaning_type sized m ts (h m refl) a
      by false = tt

  slice_meant : (sized : Bool) (t : MType) → IsMeantType s t → IsMeantType s (slice_type sized t)
  slice_meant true t h = tt
  slice_meant false t h = h

  array_meant : (t : MType) (len : Option ℕ) (suffix : List ℕ) → IsMeantType s t →
      IsMeantType s (array_type t len suffix)
  array_meant t None suffix h = tt
  array_meant t (Some n) suffix h = by (is_length (Some n) suffix)
    where
      by : (b : Bool) → IsMeantType s (if b then ArrayType t n else file_types.broken_type)
      by true = h
      by false = tt

  mutual
    type_meant : (sized : Bool) (t : TypeTree) → IsMeantType s (type_of (means s.items) sized t)
    type_meant sized written.Never = tt
    type_meant sized (written.Tuple ts) = types_meant true ts
    type_meant sized (written.Point mutable t) = type_meant false t
    type_meant sized (written.Slice t) = slice_meant sized (type_of (means s.items) true t) (type_meant true t)
    type_meant sized (written.Array t len suffix) =
        array_meant (type_of (means s.items) true t) len suffix (type_meant true t)
    type_meant sized (written.Named name ts) =
        named_meant sized (means s.items name)
        (file_types.types_of (means s.items) (arguments_sized (means s.items name)) ts) (meaning_found name)
        (types_meant (arguments_sized (means s.items name)) ts)

    types_meant : (sized : Bool) (ts : TypeTrees) → AreMeantAll s (file_types.types_of (means s.items) sized ts)
    types_meant sized written.none = tt
    types_meant sized (written.more t ts) = (type_meant sized t, types_meant sized ts)

  -- ---- arguments in the place of parameters

  argument_meant : (ts : MTypes) (n : ℕ) → AreMeantAll s ts → IsMeantType s (argument ts n)
  argument_meant no_types n a = tt
  argument_meant (more_types t ts) zero a = a.0
  argument_meant (more_types t ts) (suc n) a = argument_meant ts n a.1

  opaque_meant : (arguments : MTypes) (name : MOpaque) (ts : MTypes) → AreMeantAll s arguments → AreMeantAll s ts →
      IsMeantType s (opaque_or arguments name ts)
  opaque_meant arguments (ParameterName n) ts a b = argument_meant arguments n a
  opaque_meant arguments name ts a b = b

  mutual
    filled_meant : (arguments : MTypes) (t : MType) → AreMeantAll s arguments → IsMeantType s t →
        IsMeantType s (filled arguments t)
    filled_meant arguments (OpaqueType name ts) a h =
        opaque_meant arguments name (filled_all arguments ts) a (all_filled arguments ts a h)
    filled_meant arguments (TupleType ts) a h = all_filled arguments ts a h
    filled_meant arguments (PointType mutable t) a h = filled_meant arguments t a h
    filled_meant arguments (SliceType t) a h = filled_meant arguments t a h
    filled_meant arguments (ArrayType t n) a h = filled_meant arguments t a h
    filled_meant arguments (NamedType owner ts) a h = (h.0, all_filled arguments ts a h.1)
    filled_meant arguments t a h = h

    all_filled : (arguments ts : MTypes) → AreMeantAll s arguments → AreMeantAll s ts →
        AreMeantAll s (filled_all arguments ts)
    all_filled arguments no_types a h = tt
    all_filled arguments (more_types t ts) a h = (filled_meant arguments t a h.0, all_filled arguments ts a h.1)

  fields_filled : (arguments : MTypes) (ts : List MType) → AreMeantAll s arguments → AreMeantAll s (types_of ts) →
      AreMeantAll s (types_of (map (filled arguments) ts))
  fields_filled arguments [] a h = tt
  fields_filled arguments (t ∷ ts) a h = (filled_meant arguments t a h.0, fields_filled arguments ts a h.1)

  braces_filled : (arguments : MTypes) (fs : List MField) → AreMeantAll s arguments →
      AreMeantAll s (types_of (map (λ (f : MField). f.type) fs)) →
      AreMeantAll s (types_of (map (λ (f : MField). f.type) (map (filled_field arguments) fs)))
  braces_filled arguments [] a h = tt
  braces_filled arguments (f ∷ fs) a h = (filled_meant arguments f.type a h.0, braces_filled arguments fs a h.1)

  form_filled : (arguments : MTypes) (form : MForm) → AreMeantAll s arguments → AreMeantAll s (form_types form) →
      AreMeantAll s (form_types (filled_form arguments form))
  form_filled arguments UnitForm a h = tt
  form_filled arguments (TupleForm ts) a h = fields_filled arguments ts a h
  form_filled arguments (BraceForm fs) a h = braces_filled arguments fs a h

  -- ---- items

  tuple_written : (fs : List FieldItem) →
      AreMeantAll s (types_of (map (λ (f : FieldItem). type_of (means s.items) true f.type) fs))
  tuple_written [] = tt
  tuple_written (f ∷ fs) = (type_meant true f.type, tuple_written fs)

  brace_written : (fs : List FieldItem) →
      AreMeantAll s (types_of (map (λ (f : MField). f.type) (map (field_of (means s.items)) fs)))
  brace_written [] = tt
  brace_written (f ∷ fs) = (type_meant true f.type, brace_written fs)

  form_written : (form : FormTree) → AreMeantAll s (form_types (form_of (means s.items) form))
  form_written forms.Unit = tt
  form_written (forms.Tuple fs) = tuple_written fs
  form_written (forms.Brace fs) = brace_written fs

  -- the types of the variants
  abbrev AreMeantForms : List MVariant → Type 0
  AreMeantForms [] = ⊤
  AreMeantForms (v ∷ vs) = AreMeantAll s (form_types v.form) × AreMeantForms vs

  variants_written : (vs : List VariantTree) → AreMeantForms (map (variant_of (means s.items)) vs)
  variants_written [] = tt
  variants_written (v ∷ vs) = (form_written v.form, variants_written vs)

  kind_written : (marked : Bool) (kind : KindTree) → AreMeantForms (item_variants (Some (kind_of (means s.items) marked kind)))
  kind_written marked (Enum name vs) = variants_written vs
  kind_written marked (Struct name form) = (form_written form, tt)
  kind_written marked (Import owner names) = tt
  kind_written marked (Function name parameter deref arms) = tt

  item_written : (o : Option ItemTree) → AreMeantForms (item_variants (option_map (item_of (means s.items)) o))
  item_written None = tt
  item_written (Some x) = kind_written (is_marked_by x.attrs) x.kind

  owner_meant : (owner : MOwner) → AreMeantForms (item_variants (declared (program s) owner))
  owner_meant (DeclaredItem i) =
      subst (λ (o : Option MItem). AreMeantForms (item_variants o)) (sym (slice_get-map (item_of (means s.items)) s.items i))
      (item_written (slice_get s.items i))
  owner_meant OptionOwner = (tt, ((tt, tt), tt))
  owner_meant ResultOwner = ((tt, tt), ((tt, tt), tt))

  kept_list : (ts : MTypes) → AreMeantAll s ts → AreKept (IsMeantType s) (types_list ts)
  kept_list no_types a = tt
  kept_list (more_types t ts) a = (a.0, kept_list ts a.1)

  variant_kept : (arguments : MTypes) (vs : List MVariant) (k : ℕ) → AreMeantAll s arguments → AreMeantForms vs →
      AreKept (IsMeantType s) (types_there (variant_types (slice_get (map (filled_variant arguments) vs) k)))
  variant_kept arguments [] k a h = tt
  variant_kept arguments (v ∷ vs) zero a h =
      kept_list (form_types (filled_form arguments v.form)) (form_filled arguments v.form a h.0)
  variant_kept arguments (v ∷ vs) (suc k) a h = variant_kept arguments vs k a h.1

  parts_meant : (t : MType) (k : ℕ) → IsMeantType s t →
      AreKept (IsMeantType s) (types_there (node_types (program s) t k))
  parts_meant (TupleType ts) zero h = kept_list ts h
  parts_meant (NamedType owner arguments) k h =
      variant_kept arguments (item_variants (declared (program s) owner)) k h.1 (owner_meant owner)
  parts_meant t k h = tt

  inner_meant : (t : MType) → IsMeantType s t → IsMeantType s (inner_type t)
  inner_meant (PointType mutable t) h = h
  inner_meant (SliceType t) h = h
  inner_meant (ArrayType t n) h = h
  inner_meant t h = h

  pub meant_types : AreMeantTypes s (IsMeantType s)
  meant_types = record {
    named = λ owner arguments h. h.0;
    inner = inner_meant;
    parts = parts_meant;
  }

  scrutinee_by_meant : (t : MType) (deref : Option ℕ) → IsMeantType s t → IsMeantType s (scrutinee_by t deref)
  scrutinee_by_meant t None h = h
  scrutinee_by_meant (PointType mutable t) (Some star) h = h
  scrutinee_by_meant t (Some star) h = h

  pub scrutinee_meant : (f : FunctionTree) → IsMeantType s (scrutinee_type s f)
  scrutinee_meant f = scrutinee_by_meant (type_of (means s.items) true f.param) f.deref (type_meant true f.param)
