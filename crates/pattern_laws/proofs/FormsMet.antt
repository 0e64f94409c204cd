-- A struct or variant that was found and meets its type: its number, the number of its fields and their types.
use Rattle.std.proofs.Common.{◌≡◌, ℕ, zero, suc, Bool, true, false, List, [], ◌∷◌, length, map, Option, Some, None, slice_get, nat_lt, refl, sym, ap, subst, ◌∙◌, arith}
use Rattle.std.proofs.lemmas.Bool.Decides.{nat_tests}
use Rattle.std.specs.Prelude.{option_map}
use Rattle.std.proofs.lemmas.Option.{slice_get-map}
use Rattle.match_model.specs.Types.{DeclaredItem, OptionOwner, ResultOwner, MType, NamedType, MTypes, types_list, types_of}
use Rattle.match_model.specs.Declarations.{MVariant, StructItem, EnumItem, filled_variant, form_types, variant_types, node_types}
use Rattle.match_model.specs.RustTypes.{rust_set, enum_set, part_type, is_type}
use Rattle.match_model.proofs.Basics.{variant_filled, form_counted}
use Rattle.match_model.specs.Constructors.{SingleSet, VariantSet, belongs}
use Rattle.decl_syntax.specs.Items.{FieldItem, FormTree, VariantTree, KindTree, Enum, Struct, Import, Function, ItemTree}
use Rattle.decl_syntax.specs.Items as forms
use Rattle.type_names.specs.Meanings.{Means, means}
use Rattle.type_names.specs.Imports.{named_variant}
use Rattle.type_names.specs.Finding.{FoundTree, FoundStruct, FoundVariant}
use Rattle.type_names.specs.Written.{type_of, field_of, field_name, form_of, variant_of, item_of, is_marked_by}
use Rattle.pattern_rules.specs.Settings.{Setting, program}
use Rattle.pattern_rules.specs.Namings.{numbered_names, form_names, variant_names, fields_found, found_ctor, found_number, meets}
use Rattle.pattern_rules.specs.Nodes.{part_types}
use Rattle.pattern_rules.specs.Builders.{types_or_none, node_ctor}
use Rattle.pattern_rules.proofs.SameTypes.{numbers_are_one}
use Rattle.pattern_laws.proofs.Fitting.{VariantFits}
use Rattle.pattern_laws.proofs.FoundThere.{is_there}

-- what a found struct or variant is for its type
pub record FormMet (s : Setting) (found : FoundTree) (u : MType) : Type 0 where
  pub variant : VariantFits (program s) (found_number found) u
  pub single : rust_set (program s) u ≡ SingleSet → found_number found ≡ 0
  pub count : length (types_list (types_or_none (node_types (program s) u (found_number found))))
      ≡ fields_found s.items found
  pub types : (i : ℕ) → part_types s (found_ctor found) u i ≡ part_type u
      (node_types (program s) u (found_number found)) i

pub mapped_length : {A B : Type 0} (f : A → B) (xs : List A) → length (map f xs) ≡ length xs
mapped_length f [] = refl
mapped_length f (x ∷ xs) = ap suc (mapped_length f xs)

types_back : (ts : List MType) → length (types_list (types_of ts)) ≡ length ts
types_back [] = refl
types_back (t ∷ ts) = ap suc (types_back ts)

numbered_back : (i : ℕ) (fs : List FieldItem) → length (numbered_names i fs) ≡ length fs
numbered_back i [] = refl
numbered_back i (f ∷ fs) = ap suc (numbered_back (suc i) fs)

-- a form has as many field types as fields
form_count : (names : Means) (form : FormTree) → length (types_list (form_types (form_of names form))) ≡ length
    (form_names form)
form_count names forms.Unit = refl
form_count names (forms.Tuple fields) =
    types_back (map (λ f. type_of names true f.type) fields)
    ∙ (mapped_length (λ f. type_of names true f.type) fields ∙ sym (numbered_back 0 fields))
form_count names (forms.Brace fields) =
    types_back (map (λ f. f.type) (map (field_of names) fields))
    ∙ (mapped_length (λ f. f.type) (map (field_of names) fields)
    ∙ (mapped_length (field_of names) fields ∙ sym (mapped_length (λ f. field_name f.name) fields)))

-- an item of the program
item_at : (s : Setting) (i : ℕ) (x : ItemTree) → slice_get s.items i ≡ Some x → slice_get (program s).items i ≡ Some
    (item_of (means s.items) x)
item_at s i x e = slice_get-map (item_of (means s.items)) s.items i ∙ ap (option_map (item_of (means s.items))) e

no_item : (s : Setting) (i : ℕ) → slice_get s.items i ≡ None → slice_get (program s).items i ≡ None
no_item s i e = slice_get-map (item_of (means s.items)) s.items i ∙ ap (option_map (item_of (means s.items))) e

none_below : (v : ℕ) → nat_lt v 0 ≡ true → ⊥
none_below v h = let no : nat_lt v 0 ≡ false = grind (arith, nat_tests) in absurd cc

struct_met : (s : Setting) (i : ℕ) (arguments : MTypes) (x : ItemTree) → slice_get s.items i ≡ Some x →
    (kind : KindTree) → x.kind ≡ kind →
    is_there s.items (FoundStruct i) ≡ true → FormMet s (FoundStruct i) (NamedType (DeclaredItem i) arguments)
struct_met s i arguments x e (Struct name form) k h =
    let item : slice_get (program s).items i ≡ Some
    (StructItem (record { name = name; form = form_of (means s.items) form })) = item_at s i x e ∙ rw k refl in
    record {
      variant = rw item refl;
      single = λ z. refl;
      count =
          rw (item, e, k) (form_counted arguments (form_of (means s.items) form) ∙ form_count (means s.items) form);
      types = λ j. refl;
    }
struct_met s i arguments x e (Enum name variants) k h = let no : is_there s.items (FoundStruct i) ≡ false = rw
    (e, k) refl in absurd cc
struct_met s i arguments x e (Import owner names) k h = let no : is_there s.items (FoundStruct i) ≡ false = rw
    (e, k) refl in absurd cc
struct_met s i arguments x e (Function name parameter deref arms) k h = let no : is_there s.items (FoundStruct i)
    ≡ false = rw (e, k) refl in absurd cc

-- a variant that may be there has as many field types as fields
variant_count : (names : Means) (variants : List VariantTree) (k : ℕ) →
    length (types_list (types_or_none (variant_types (slice_get (map (variant_of names) variants) k)))) ≡ length
    (variant_names (slice_get variants k))
variant_count names variants k = rw (slice_get-map (variant_of names) variants k) (go (slice_get variants k))
  where
    go : (v : Option VariantTree) →
        length (types_list (types_or_none (variant_types (option_map (variant_of names) v)))) ≡ length
        (variant_names v)
    go None = refl
    go (Some v) = form_count names v.form

-- arguments in the place of parameters take no field away
filled_count : (arguments : MTypes) (vs : List MVariant) (k : ℕ) →
    length (types_list (types_or_none (variant_types (slice_get (map (filled_variant arguments) vs) k)))) ≡ length
    (types_list (types_or_none (variant_types (slice_get vs k))))
filled_count arguments vs k = rw (variant_filled arguments vs k) (go (slice_get vs k))
  where
    go : (v : Option MVariant) →
        length (types_list (types_or_none (variant_types (option_map (filled_variant arguments) v)))) ≡ length
        (types_list (types_or_none (variant_types v)))
    go None = refl
    go (Some v) = form_counted arguments v.form

-- the constructors of an enum with this variant
enum_fits : (names : Means) (marked : Bool) (variants : List VariantTree) (k : ℕ) →
    nat_lt k (length (map named_variant variants)) ≡ true →
    (belongs (enum_set marked (map (variant_of names) variants))
    (node_ctor (enum_set marked (map (variant_of names) variants)) k) ≡ true)
    × (enum_set marked (map (variant_of names) variants) ≡ SingleSet → k ≡ 0)
enum_fits names marked [] k h = let no : nat_lt k 0 ≡ false = grind (arith, nat_tests) in absurd cc
enum_fits names marked (v ∷ vs) k h =
    let same : length (map (variant_of names) vs) ≡ length (map named_variant vs) = mapped_length
    (variant_of names) vs ∙ sym (mapped_length named_variant vs) in (
      ap (λ n. nat_lt k (suc n)) same ∙ h,
      λ z. let no : VariantSet (suc (length (map (variant_of names) vs))) marked
          ≡ SingleSet = z in absurd cc,
    )

declared_met : (s : Setting) (i v : ℕ) (arguments : MTypes) (x : ItemTree) → slice_get s.items i ≡ Some x →
    (kind : KindTree) → x.kind ≡ kind →
    is_there s.items (FoundVariant (DeclaredItem i) v) ≡ true → FormMet s (FoundVariant (DeclaredItem i) v)
    (NamedType (DeclaredItem i) arguments)
declared_met s i v arguments x e (Enum name variants) k h =
    let item : slice_get (program s).items i ≡ Some
    (EnumItem name (is_marked_by x.attrs) (map (variant_of (means s.items)) variants)) = item_at s i x e
    ∙ rw k refl in
    let lt : nat_lt v (length (map named_variant variants)) ≡ true = rw (e, k) at h in
    let fits = enum_fits (means s.items) (is_marked_by x.attrs) variants v lt in
    record {
      variant = rw item fits.0;
      single = rw item fits.1;
      count =
          rw (item, e, k)
          (filled_count arguments (map (variant_of (means s.items)) variants) v
          ∙ variant_count (means s.items) variants v);
      types = λ j. refl;
    }
declared_met s i v arguments x e (Struct name form) k h = let lt : nat_lt v 0 ≡ true = rw (e, k) at h in absurd
    (none_below v lt)
declared_met s i v arguments x e (Import owner names) k h = let lt : nat_lt v 0 ≡ true = rw (e, k) at h in absurd
    (none_below v lt)
declared_met s i v arguments x e (Function name parameter deref arms) k h = let lt : nat_lt v 0 ≡ true = rw
    (e, k) at h in absurd (none_below v lt)

option_met : (s : Setting) (v : ℕ) (arguments : MTypes) → nat_lt v 2 ≡ true →
    FormMet s (FoundVariant OptionOwner v) (NamedType OptionOwner arguments)
option_met s zero arguments h = record { variant = refl; single = λ z. refl; count = refl; types = λ j. refl }
option_met s (suc zero) arguments h = record { variant = refl; single = λ z. absurd cc; count = refl; types = λ j. refl }
option_met s (suc (suc v)) arguments h = absurd
    (let no : nat_lt (suc (suc v)) 2 ≡ false = grind (arith, nat_tests) in cc)

result_met : (s : Setting) (v : ℕ) (arguments : MTypes) → nat_lt v 2 ≡ true →
    FormMet s (FoundVariant ResultOwner v) (NamedType ResultOwner arguments)
result_met s zero arguments h = record { variant = refl; single = λ z. refl; count = refl; types = λ j. refl }
result_met s (suc zero) arguments h = record { variant = refl; single = λ z. absurd cc; count = refl; types = λ j. refl }
result_met s (suc (suc v)) arguments h = absurd
    (let no : nat_lt (suc (suc v)) 2 ≡ false = grind (arith, nat_tests) in cc)

-- what was found, is declared and meets a type of the program
pub form_met : (s : Setting) (found : FoundTree) (u : MType) → meets found u ≡ true → is_there s.items found ≡ true →
    is_type (program s) u ≡ true → FormMet s found u
form_met s (FoundStruct i) (NamedType (DeclaredItem j) arguments) m h d =
    let same : i ≡ j = numbers_are_one i j m in
    subst (λ n. FormMet s (FoundStruct i) (NamedType (DeclaredItem n) arguments)) same (go (slice_get s.items i) refl)
  where
    go : (x : Option ItemTree) → slice_get s.items i ≡ x → FormMet s (FoundStruct i)
        (NamedType (DeclaredItem i) arguments)
    go None e = let no : is_there s.items (FoundStruct i) ≡ false = rw e refl in absurd cc
    go (Some x) e = struct_met s i arguments x e x.kind refl h
form_met s (FoundStruct i) (NamedType OptionOwner arguments) m h d = cc
form_met s (FoundStruct i) (NamedType ResultOwner arguments) m h d = cc
form_met s (FoundVariant (DeclaredItem i) v) (NamedType (DeclaredItem j) arguments) m h d =
    let same : i ≡ j = numbers_are_one i j m in
    subst (λ n. FormMet s (FoundVariant (DeclaredItem i) v) (NamedType (DeclaredItem n) arguments)) same
    (go (slice_get s.items i) refl)
  where
    go : (x : Option ItemTree) → slice_get s.items i ≡ x → FormMet s (FoundVariant (DeclaredItem i) v)
        (NamedType (DeclaredItem i) arguments)
    go None e = let lt : nat_lt v 0 ≡ true = rw e at h in absurd (none_below v lt)
    go (Some x) e = declared_met s i v arguments x e x.kind refl h
form_met s (FoundVariant OptionOwner v) (NamedType OptionOwner arguments) m h d = option_met s v arguments h
form_met s (FoundVariant ResultOwner v) (NamedType ResultOwner arguments) m h d = result_met s v arguments h
form_met s found u m h d = cc
