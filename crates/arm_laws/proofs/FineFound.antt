-- The path of a variant finds it as it is declared, where no name of the file stands twice.
use Rattle.std.proofs.Common.{◌≡◌, ℕ, zero, suc, Bool, true, false, List, [], ◌∷◌, map, length, slice_get, Option}
use Rattle.std.proofs.Common.{Some, None}
use Rattle.std.proofs.Common.{option_map, refl, sym, ap, subst, ◌∙◌}
use Rattle.std.proofs.lemmas.Option.{slice_get-map}
use Rattle.std.specs.List.{list_any}
use Rattle.match_model.specs.Constructors.{VariantCtor}
use Rattle.match_model.specs.Declarations.{MField, UnitForm, MVariant, filled, filled_field, filled_form}
use Rattle.match_model.specs.Declarations.{filled_variant}
use Rattle.match_model.specs.Declarations.{parameter_variant, item_variants, variants_of}
use Rattle.match_model.specs.OfType.{node_ctor}
use Rattle.match_model.specs.RustTypes.{enum_set}
use Rattle.match_model.specs.Types.{MOwner, DeclaredItem, OptionOwner, ResultOwner, MType, NamedType, MTypes}
use Rattle.match_model.specs.Witness.{MWitness}
use Rattle.match_model.proofs.Basics.{nat_itself}
use Rattle.decl_syntax.specs.Items.{FieldItem, FormTree, Unit, VariantTree, KindTree, Enum, Struct, Import, Function}
use Rattle.decl_syntax.specs.Items.{ItemTree}
use Rattle.decl_syntax.specs.Items as forms
use Rattle.type_names.specs.Finding.{FoundStruct, FoundVariant}
use Rattle.type_names.specs.Imports.{form_kind, kind_variants, named_variant, form_at}
use Rattle.type_names.specs.Imports as imports
use Rattle.type_names.specs.Meanings.{Means, means}
use Rattle.type_names.specs.NameRules.{form_has_field_twice, has_field_twice}
use Rattle.type_names.specs.Rules.{passes, item_test}
use Rattle.type_names.specs.Written.{field_of, form_of, variant_of, kind_of, item_of, is_marked_by, field_name}
use Rattle.type_names.specs.Written.{type_of}
use Rattle.type_names.specs.declared.item_rules.ItemRule.TheVariants as rules
use Rattle.pattern_rules.specs.Namings.{form_names, numbered_names}
use Rattle.pattern_rules.specs.Settings.{Setting, program}
use Rattle.arm_laws.specs.Found.{kind_in, AreNamesOf, IsVariantFound, FindsVariant, PathsFind}
use Rattle.arm_laws.specs.NamedOnce.{IsNamedOnce, found_as}
use Rattle.arm_laws.specs.MeantTypes.{AreKept, AreMeantTypes}
use Rattle.arm_laws.proofs.FineNames.{AllTypes, paths_find}
use Rattle.arm_laws.proofs.NamesFound.{neither, path_found}

kind_kept : (names : Means) (arguments : MTypes) (form : FormTree) →
    form_kind form ≡ kind_in (filled_form arguments (form_of names form))
kind_kept names arguments Unit = refl
kind_kept names arguments (forms.Tuple fields) = refl
kind_kept names arguments (forms.Brace fields) = refl

mapped_length : {A B : Type 0} (f : A → B) (xs : List A) → length (map f xs) ≡ length xs
mapped_length f [] = refl
mapped_length f (x ∷ xs) = ap suc (mapped_length f xs)

numbered_length : (i : ℕ) (fs : List FieldItem) → length (numbered_names i fs) ≡ length fs
numbered_length i [] = refl
numbered_length i (f ∷ fs) = ap suc (numbered_length (suc i) fs)

names_kept : (names : Means) (arguments : MTypes) (fs : List FieldItem) →
    map (λ (f : FieldItem). field_name f.name) fs
    ≡ map (λ (f : MField). f.name) (map (filled_field arguments) (map (field_of names) fs))
names_kept names arguments [] = refl
names_kept names arguments (f ∷ fs) = ap (λ ns. field_name f.name ∷ ns) (names_kept names arguments fs)

form_fields : (names : Means) (arguments : MTypes) (form : FormTree) → form_has_field_twice form ≡ false →
    AreNamesOf (filled_form arguments (form_of names form)) (form_names form)
form_fields names arguments Unit h = tt
form_fields names arguments (forms.Tuple fs) h =
    let written : FieldItem → MType = λ f. type_of names true f.type in
    numbered_length 0 fs
    ∙ sym (mapped_length (filled arguments) (map written fs) ∙ mapped_length written fs)
form_fields names arguments (forms.Brace fs) h = (names_kept names arguments fs, h)

enum_ctor : (marked : Bool) (vs : List MVariant) (k : ℕ) → VariantCtor k ≡ node_ctor (enum_set marked vs) k
enum_ctor false [] k = refl
enum_ctor true [] k = refl
enum_ctor marked (v ∷ vs) k = refl

module _ (s : Setting) (once : IsNamedOnce s) where
  no_field_twice : (i : ℕ) (x : ItemTree) (kind : KindTree) → slice_get s.items i ≡ Some x → x.kind ≡ kind →
      has_field_twice kind ≡ false
  no_field_twice i x kind e k =
      ap has_field_twice (sym k) ∙ ap (passes (item_test rules.FieldTwice s.items)) (sym e) ∙ once.fields i

  item_at : (i : ℕ) (x : ItemTree) (kind : KindTree) → slice_get s.items i ≡ Some x → x.kind ≡ kind →
      slice_get (program s).items i ≡ Some (kind_of (means s.items) (is_marked_by x.attrs) kind)
  item_at i x kind e k =
      slice_get-map (item_of (means s.items)) s.items i ∙ ap (option_map (item_of (means s.items))) e
      ∙ ap (λ z. Some (kind_of (means s.items) (is_marked_by x.attrs) z)) k

  struct_found : (i : ℕ) (x : ItemTree) (arguments : MTypes) (name : List ℕ) (form : FormTree) →
      slice_get s.items i ≡ Some x → x.kind ≡ Struct name form →
      IsVariantFound s (NamedType (DeclaredItem i) arguments) 0
      (filled_variant arguments (record { name = name; form = form_of (means s.items) form })) (FoundStruct i)
  struct_found i x arguments name form e kind = record {
    meets = nat_itself i;
    ctor = rw (item_at i x (Struct name form) e kind) refl;
    form = rw (e, kind) (ap Some (kind_kept (means s.items) arguments form));
    names = rw (e, kind) (form_fields (means s.items) arguments form (no_field_twice i x (Struct name form) e kind));
  }

  variant_found : (i : ℕ) (x : ItemTree) (arguments : MTypes) (name : List ℕ) (variants : List VariantTree) (k : ℕ)
      (w : VariantTree) → slice_get s.items i ≡ Some x → x.kind ≡ Enum name variants → slice_get variants k ≡ Some w →
      form_has_field_twice w.form ≡ false → IsVariantFound s (NamedType (DeclaredItem i) arguments) k
      (filled_variant arguments (variant_of (means s.items) w)) (FoundVariant (DeclaredItem i) k)
  variant_found i x arguments name variants k w e kind at once = record {
    meets = nat_itself i;
    ctor = rw (item_at i x (Enum name variants) e kind)
        (enum_ctor (is_marked_by x.attrs) (map (variant_of (means s.items)) variants) k);
    form = ap (λ o. form_at (map named_variant (imports.item_variants o)) (Some k)) e
        ∙ (ap (λ q. form_at (map named_variant (kind_variants q)) (Some k)) kind
        ∙ (ap (option_map (λ v. v.1)) (slice_get-map named_variant variants k ∙ ap (option_map named_variant) at)
        ∙ ap Some (kind_kept (means s.items) arguments w.form)));
    names = rw (e, kind, at) (form_fields (means s.items) arguments w.form once);
  }

  enum_found : (i : ℕ) (x : ItemTree) (arguments : MTypes) (name : List ℕ) (variants : List VariantTree) →
      slice_get s.items i ≡ Some x → x.kind ≡ Enum name variants → (left : List VariantTree) (j k : ℕ) (v : MVariant) →
      slice_get (map (filled_variant arguments) (map (variant_of (means s.items)) left)) j ≡ Some v →
      list_any (λ (u : VariantTree). form_has_field_twice u.form) left ≡ false →
      ((w : VariantTree) → slice_get left j ≡ Some w → slice_get variants k ≡ Some w) →
      IsVariantFound s (NamedType (DeclaredItem i) arguments) k v (FoundVariant (DeclaredItem i) k)
  enum_found i x arguments name variants e kind [] j k v h t there = absurd cc
  enum_found i x arguments name variants e kind (w ∷ ws) zero k v h t there =
      let same : filled_variant arguments (variant_of (means s.items) w) ≡ v = cc in
      subst (λ u. IsVariantFound s (NamedType (DeclaredItem i) arguments) k u (FoundVariant (DeclaredItem i) k)) same
      (variant_found i x arguments name variants k w e kind (there w refl)
      (neither (form_has_field_twice w.form) (list_any (λ (u : VariantTree). form_has_field_twice u.form) ws) t).0)
  enum_found i x arguments name variants e kind (w ∷ ws) (suc j) k v h t there =
      enum_found i x arguments name variants e kind ws j k v h
      (neither (form_has_field_twice w.form) (list_any (λ (u : VariantTree). form_has_field_twice u.form) ws) t).1 there

  found_by_kind : (i : ℕ) (x : ItemTree) (arguments : MTypes) (k : ℕ) (v : MVariant) → slice_get s.items i ≡ Some x →
      (kind : KindTree) → x.kind ≡ kind → slice_get (map (filled_variant arguments)
      (item_variants (Some (kind_of (means s.items) (is_marked_by x.attrs) kind)))) k ≡ Some v →
      IsVariantFound s (NamedType (DeclaredItem i) arguments) k v (found_as (program s) (DeclaredItem i) k)
  found_by_kind i x arguments zero v e (Struct name form) kind h =
      let same : filled_variant arguments (record { name = name; form = form_of (means s.items) form }) ≡ v = cc in
      rw (item_at i x (Struct name form) e kind)
      (subst (λ u. IsVariantFound s (NamedType (DeclaredItem i) arguments) 0 u (FoundStruct i)) same
      (struct_found i x arguments name form e kind))
  found_by_kind i x arguments (suc k) v e (Struct name form) kind h = absurd cc
  found_by_kind i x arguments k v e (Enum name variants) kind h =
      rw (item_at i x (Enum name variants) e kind)
      (enum_found i x arguments name variants e kind variants k k v h
      (no_field_twice i x (Enum name variants) e kind) (λ w at. at))
  found_by_kind i x arguments k v e (Import owner names) kind h = absurd cc
  found_by_kind i x arguments k v e (Function name parameter deref arms) kind h = absurd cc

  found_by_item : (i : ℕ) (arguments : MTypes) (k : ℕ) (v : MVariant) (o : Option ItemTree) → slice_get s.items i ≡ o →
      slice_get (map (filled_variant arguments) (item_variants (option_map (item_of (means s.items)) o))) k ≡ Some v →
      IsVariantFound s (NamedType (DeclaredItem i) arguments) k v (found_as (program s) (DeclaredItem i) k)
  found_by_item i arguments k v None e h = absurd cc
  found_by_item i arguments k v (Some x) e h = found_by_kind i x arguments k v e x.kind refl h

  found_there : (owner : MOwner) (arguments : MTypes) (k : ℕ) (v : MVariant) →
      slice_get (variants_of (program s) (NamedType owner arguments)) k ≡ Some v →
      IsVariantFound s (NamedType owner arguments) k v (found_as (program s) owner k)
  found_there (DeclaredItem i) arguments k v h =
      found_by_item i arguments k v (slice_get s.items i) refl
      (ap (λ o. slice_get (map (filled_variant arguments) (item_variants o)) k)
      (sym (slice_get-map (item_of (means s.items)) s.items i)) ∙ h)
  found_there OptionOwner arguments zero v h =
      let same : filled_variant arguments (record { name = 78 ∷ 111 ∷ 110 ∷ 101 ∷ []; form = UnitForm }) ≡ v = cc in
      subst (λ u. IsVariantFound s (NamedType OptionOwner arguments) 0 u (FoundVariant OptionOwner 0)) same
      (record { meets = refl; ctor = refl; form = refl; names = tt })
  found_there OptionOwner arguments (suc zero) v h =
      let same : filled_variant arguments (parameter_variant (83 ∷ 111 ∷ 109 ∷ 101 ∷ []) 0) ≡ v = cc in
      subst (λ u. IsVariantFound s (NamedType OptionOwner arguments) 1 u (FoundVariant OptionOwner 1)) same
      (record { meets = refl; ctor = refl; form = refl; names = refl })
  found_there OptionOwner arguments (suc (suc k)) v h = absurd cc
  found_there ResultOwner arguments zero v h =
      let same : filled_variant arguments (parameter_variant (79 ∷ 107 ∷ []) 0) ≡ v = cc in
      subst (λ u. IsVariantFound s (NamedType ResultOwner arguments) 0 u (FoundVariant ResultOwner 0)) same
      (record { meets = refl; ctor = refl; form = refl; names = refl })
  found_there ResultOwner arguments (suc zero) v h =
      let same : filled_variant arguments (parameter_variant (69 ∷ 114 ∷ 114 ∷ []) 1) ≡ v = cc in
      subst (λ u. IsVariantFound s (NamedType ResultOwner arguments) 1 u (FoundVariant ResultOwner 1)) same
      (record { meets = refl; ctor = refl; form = refl; names = refl })
  found_there ResultOwner arguments (suc (suc k)) v h = absurd cc

  finds_variant : (P : MType → Type 0) → AreMeantTypes s P → (t : MType) (k : ℕ) → P t → FindsVariant s t k
  finds_variant P kept (NamedType owner arguments) k p v h =
      subst (IsVariantFound s (NamedType owner arguments) k v)
      (sym (path_found s once owner arguments k v (kept.named owner arguments p) h)) (found_there owner arguments k v h)
  finds_variant P kept t k p v h = absurd cc

  all_kept : (P : MType → Type 0) (ts : List MType) → AreKept P ts → AllTypes P ts
  all_kept P [] h = tt
  all_kept P (t ∷ ts) h = (h.0, all_kept P ts h.1)

  -- the paths in the arm for a witness of a type that the file means find their variants
  pub meant_paths_find : (P : MType → Type 0) → AreMeantTypes s P → (t : MType) (w : MWitness) → P t → PathsFind s t w
  meant_paths_find P kept t w p =
      paths_find s P (finds_variant P kept) kept.inner (λ u k q. all_kept P _ (kept.parts u k q)) t w p
