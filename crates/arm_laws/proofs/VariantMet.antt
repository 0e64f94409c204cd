-- What the path of a variant finds, by what a pattern asks of it.
use Rattle.std.proofs.Common.{◌≡◌, ℕ, zero, suc, Bool, true, false, List, [], ◌∷◌, map, slice_get, Option, Some, None, option_map, refl, sym, ap, subst, ◌∙◌, codes}
use Rattle.std.proofs.lemmas.Option.{slice_get-map}
use Rattle.std.specs.List.{list_any}
use Rattle.match_model.specs.Types.{MOwner, DeclaredItem, OptionOwner, ResultOwner, MType, NamedType, MTypes}
use Rattle.match_model.specs.Declarations.{MField, MForm, UnitForm, TupleForm, BraceForm, MVariant, MItem, filled_field, filled_form, filled_variant, parameter, option_item, result_item, item_variants, variants_of, node_types}
use Rattle.match_model.specs.RustTypes.{part_type}
use Rattle.decl_syntax.specs.Items.{FieldItem, FormTree, Unit, VariantTree, KindTree, Enum, Struct, Import, Function, ItemTree}
use Rattle.decl_syntax.specs.Items as forms
use Rattle.type_names.specs.Meanings.{Means, means}
use Rattle.type_names.specs.Imports.{form_kind}
use Rattle.type_names.specs.NameRules.{repeats, form_has_field_twice, has_field_twice}
use Rattle.type_names.specs.Rules.{passes, item_test}
use Rattle.type_names.specs.declared.item_rules.ItemRule.TheVariants as rules
use Rattle.type_names.specs.Finding.{FoundTree, FoundStruct, FoundVariant, found_form}
use Rattle.type_names.specs.Written.{field_of, form_of, variant_of, kind_of, item_of, is_marked_by, field_name}
use Rattle.pattern_rules.specs.Settings.{Setting, program}
use Rattle.pattern_rules.specs.Namings.{is_unit_form, form_names, field_names, found_ctor, found_number}
use Rattle.pattern_rules.specs.Nodes.{part_types}
use Rattle.witness_text.specs.Trees.{NameTree, PlainName, VariantName}
use Rattle.witness_names.specs.Named.{declared_name, name_by}
use Rattle.witness_names.specs.declared.paths.Paths.TheVariants.{Whole}
use Rattle.arm_laws.specs.NamedOnce.{IsNamedOnce, declared_as, found_as}
use Rattle.arm_laws.proofs.NamesFound.{neither}

-- its number, the types of its parts, the names of its fields, and its form where it has a name alone
pub record IsMet (s : Setting) (owner : MOwner) (arguments : MTypes) (k : ℕ) (v : MVariant) (found : FoundTree) : Type
    0 where
  pub number : found_number found ≡ k
  pub types : (i : ℕ) → part_types s (found_ctor found) (NamedType owner arguments) i
      ≡ part_type (NamedType owner arguments) (node_types (program s) (NamedType owner arguments) k) i
  pub names : (fields : List MField) → v.form ≡ BraceForm fields →
      (field_names s.items found ≡ map (λ (f : MField). f.name) fields)
      × (repeats [] (map (λ (f : MField). f.name) fields) ≡ false)
  pub unit : (name : List ℕ) → name_by Whole (program s) (NamedType owner arguments) v.name ≡ PlainName name →
      v.form ≡ UnitForm → is_unit_form (found_form s.items found) ≡ true

names_kept : (names : Means) (arguments : MTypes) (fs : List FieldItem) →
    map (λ (f : FieldItem). field_name f.name) fs
    ≡ map (λ (f : MField). f.name) (map (filled_field arguments) (map (field_of names) fs))
names_kept names arguments [] = refl
names_kept names arguments (f ∷ fs) = ap (λ ns. field_name f.name ∷ ns) (names_kept names arguments fs)

form_kept : (names : Means) (arguments : MTypes) (form : FormTree) (fields : List MField) →
    filled_form arguments (form_of names form) ≡ BraceForm fields → form_has_field_twice form ≡ false →
    (form_names form ≡ map (λ (f : MField). f.name) fields)
    × (repeats [] (map (λ (f : MField). f.name) fields) ≡ false)
form_kept names arguments forms.Unit fields e h = absurd cc
form_kept names arguments (forms.Tuple ts) fields e h = absurd cc
form_kept names arguments (forms.Brace fs) fields e h =
    let same : map (filled_field arguments) (map (field_of names) fs) ≡ fields = cc in
    let kept = names_kept names arguments fs ∙ ap (map (λ (f : MField). f.name)) same in
    (kept, ap (repeats []) (sym kept) ∙ h)

form_unit : (names : Means) (arguments : MTypes) (form : FormTree) →
    filled_form arguments (form_of names form) ≡ UnitForm → is_unit_form (Some (form_kind form)) ≡ true
form_unit names arguments forms.Unit e = refl
form_unit names arguments (forms.Tuple ts) e = absurd cc
form_unit names arguments (forms.Brace fs) e = absurd cc

-- a variant of the program is one of the file
written_form : (names : Means) (arguments : MTypes) (variants : List VariantTree) (k : ℕ) (v : MVariant) →
    slice_get (map (filled_variant arguments) (map (variant_of names) variants)) k ≡ Some v →
    list_any (λ (u : VariantTree). form_has_field_twice u.form) variants ≡ false →
    (w : VariantTree) × (slice_get variants k ≡ Some w) × (filled_form arguments (form_of names w.form) ≡ v.form)
    × (form_has_field_twice w.form ≡ false)
written_form names arguments [] k v h e = absurd cc
written_form names arguments (w ∷ ws) zero v h e =
    let same : filled_variant arguments (variant_of names w) ≡ v = cc in (
      w,
      refl,
      ap (λ (u : MVariant). u.form) same,
      (neither (form_has_field_twice w.form) (list_any (λ (u : VariantTree). form_has_field_twice u.form) ws) e).0,
    )
written_form names arguments (w ∷ ws) (suc k) v h e =
    written_form names arguments ws k v h
    (neither (form_has_field_twice w.form) (list_any (λ (u : VariantTree). form_has_field_twice u.form) ws) e).1

no_plain : (owner variant name : List ℕ) → VariantName owner variant ≡ PlainName name → ⊥
no_plain owner variant name e = cc

module _ (s : Setting) (once : IsNamedOnce s) where
  no_field_twice : (i : ℕ) (x : ItemTree) (kind : KindTree) → slice_get s.items i ≡ Some x → x.kind ≡ kind →
      has_field_twice kind ≡ false
  no_field_twice i x kind e k =
      ap has_field_twice (sym k) ∙ ap (passes (item_test rules.FieldTwice s.items)) (sym e) ∙ once.fields i

  item_at : (i : ℕ) (x : ItemTree) (kind : KindTree) → slice_get s.items i ≡ Some x → x.kind ≡ kind →
      slice_get (program s).items i ≡ Some (kind_of (means s.items) (is_marked_by x.attrs) kind)
  item_at i x kind e k =
      slice_get-map (item_of (means s.items)) s.items i ∙ ap (option_map (item_of (means s.items))) e
      ∙ ap (λ z. Some (kind_of (means s.items) (is_marked_by x.attrs) z)) k

  met_by_kind : (i : ℕ) (x : ItemTree) (arguments : MTypes) (k : ℕ) (v : MVariant) → slice_get s.items i ≡ Some x →
      (kind : KindTree) → x.kind ≡ kind →
      slice_get (map (filled_variant arguments)
      (item_variants (Some (kind_of (means s.items) (is_marked_by x.attrs) kind)))) k ≡ Some v →
      IsMet s (DeclaredItem i) arguments k v
      (declared_as (Some (kind_of (means s.items) (is_marked_by x.attrs) kind)) i k)
  met_by_kind i x arguments zero v e (Struct name form) kind h =
      let same : filled_variant arguments (record { name = name; form = form_of (means s.items) form }) ≡ v = cc in
      let is : filled_form arguments (form_of (means s.items) form) ≡ v.form = ap (λ (u : MVariant). u.form) same in
      record {
        number = refl;
        types = λ j. refl;
        names = λ fields f. rw (e, kind) (form_kept (means s.items) arguments form fields (is ∙ f)
            (no_field_twice i x (Struct name form) e kind));
        unit = λ n p f. rw (e, kind) (form_unit (means s.items) arguments form (is ∙ f));
      }
  met_by_kind i x arguments (suc k) v e (Struct name form) kind h = absurd cc
  met_by_kind i x arguments k v e (Enum name variants) kind h =
      let w = written_form (means s.items) arguments variants k v h
      (no_field_twice i x (Enum name variants) e kind) in
      record {
        number = refl;
        types = λ j. refl;
        names = λ fields f. rw (e, kind, w.1) (form_kept (means s.items) arguments w.0.form fields (w.2 ∙ f) w.3);
        unit = λ n p f. absurd (no_plain name v.name n
            (sym (ap (λ (o : Option MItem). declared_name o v.name)
            (item_at i x (Enum name variants) e kind)) ∙ p));
      }
  met_by_kind i x arguments k v e (Import owner names) kind h = absurd cc
  met_by_kind i x arguments k v e (Function name parameter deref arms) kind h = absurd cc

  met_by_item : (i : ℕ) (arguments : MTypes) (k : ℕ) (v : MVariant) (o : Option ItemTree) → slice_get s.items i ≡ o →
      slice_get (map (filled_variant arguments) (item_variants (option_map (item_of (means s.items)) o))) k ≡ Some v →
      IsMet s (DeclaredItem i) arguments k v (declared_as (option_map (item_of (means s.items)) o) i k)
  met_by_item i arguments k v None e h = absurd cc
  met_by_item i arguments k v (Some x) e h = met_by_kind i x arguments k v e x.kind refl h

  built_in_met : (owner : MOwner) (arguments : MTypes) (k : ℕ) (v : MVariant) →
      ((fields : List MField) → v.form ≡ BraceForm fields → ⊥) →
      ((name : List ℕ) → name_by Whole (program s) (NamedType owner arguments) v.name ≡ PlainName name → ⊥) →
      IsMet s owner arguments k v (FoundVariant owner k)
  built_in_met owner arguments k v f g = record {
    number = refl;
    types = λ j. refl;
    names = λ fields e. absurd (f fields e);
    unit = λ name e u. absurd (g name e);
  }

  no_brace : (arguments : MTypes) (k : ℕ) (v : MVariant) →
      slice_get (map (filled_variant arguments) (item_variants (Some option_item))) k ≡ Some v →
      (fields : List MField) → v.form ≡ BraceForm fields → ⊥
  no_brace arguments zero v h fields e = let same : UnitForm ≡ v.form = cc in cc
  no_brace arguments (suc zero) v h fields e =
      let same : filled_form arguments (TupleForm (parameter 0 ∷ [])) ≡ v.form
      = cc in cc
  no_brace arguments (suc (suc k)) v h fields e = cc

  no_brace_either : (arguments : MTypes) (k : ℕ) (v : MVariant) →
      slice_get (map (filled_variant arguments) (item_variants (Some result_item))) k ≡ Some v →
      (fields : List MField) → v.form ≡ BraceForm fields → ⊥
  no_brace_either arguments zero v h fields e =
      let same : filled_form arguments (TupleForm (parameter 0 ∷ [])) ≡ v.form
      = cc in cc
  no_brace_either arguments (suc zero) v h fields e =
      let same : filled_form arguments (TupleForm (parameter 1 ∷ [])) ≡ v.form
      = cc in cc
  no_brace_either arguments (suc (suc k)) v h fields e = cc

  pub variant_met : (owner : MOwner) (arguments : MTypes) (k : ℕ) (v : MVariant) →
      slice_get (variants_of (program s) (NamedType owner arguments)) k ≡ Some v →
      IsMet s owner arguments k v (found_as (program s) owner k)
  variant_met (DeclaredItem i) arguments k v h =
      let at : slice_get (program s).items i ≡ option_map (item_of (means s.items)) (slice_get s.items i) =
      slice_get-map (item_of (means s.items)) s.items i in
      subst (λ (o : Option MItem). IsMet s (DeclaredItem i) arguments k v (declared_as o i k)) (sym at)
      (met_by_item i arguments k v (slice_get s.items i) refl
      (ap (λ (o : Option MItem). slice_get (map (filled_variant arguments) (item_variants o)) k) (sym at) ∙ h))
  variant_met OptionOwner arguments k v h =
      built_in_met OptionOwner arguments k v (no_brace arguments k v h)
      (λ name e. no_plain (codes "Option") v.name name e)
  variant_met ResultOwner arguments k v h =
      built_in_met ResultOwner arguments k v (no_brace_either arguments k v h)
      (λ name e. no_plain (codes "Result") v.name name e)
