-- The names of the fields of a struct or variant, as its item writes them and as the program declares them.
use Rattle.std.proofs.Common.{◌≡◌, ℕ, zero, suc, ◌<◌, ◌+◌, add-one, true, false, List, [], ◌∷◌, ◌++◌, map, length, take, Option, Some, None, refl, sym, ap, subst, ◌∙◌, arith}
use Rattle.std.specs.Prelude.{slice_get, option_map, is_some, IsTrue}
use Rattle.std.specs.Fmt.{decimal}
use Rattle.std.proofs.lemmas.List.{map-append}
use Rattle.match_model.specs.declared.Width.{Width}
use Rattle.match_model.specs.Types.{DeclaredItem, OptionOwner, ResultOwner, MType, TupleType, NamedType, MTypes}
use Rattle.match_model.specs.Declarations.{MField, MVariant, MItem, MProgram, item_variants as declared_variants}
use Rattle.match_model.specs.RustTypes.{is_type}
use Rattle.decl_syntax.specs.Items.{FieldItem, FormTree, Unit, VariantTree, KindTree, Enum, Struct, Import, Function, ItemTree}
use Rattle.decl_syntax.specs.Items as forms
use Rattle.type_names.specs.Meanings.{Means, means}
use Rattle.type_names.specs.Written.{type_of, field_name, field_of, form_of, variant_of, item_of, program_of}
use Rattle.type_names.specs.Imports.{named_variant, item_variants, kind_variants, form_at}
use Rattle.type_names.specs.Finding.{FoundTree, FoundNothing, FoundTwice, FoundStruct, FoundVariant, struct_form, kind_form, found_form}
use Rattle.type_names.proofs.Variants.{get_map}
use Rattle.type_table.specs.Tables.{type_variant, fields_of_type, field_name_of}
use Rattle.type_table.specs.Lookups as declared
use Rattle.type_table.proofs.FilledForms.{names_filled}
use Rattle.type_table.proofs.LookupLemmas.{fields_counted, name_at}
use Rattle.pattern_rules.specs.Namings.{numbered_names, form_names, struct_names, variant_names, field_names, found_number, meets}
use Rattle.pattern_rules.specs.NodeRules.{is_tuple}
use Rattle.pattern_rules.proofs.SameTypes.{numbers_are_one}

numbered_same : (names : Means) (i : ℕ) (fs : List FieldItem) → numbered_names i fs ≡ declared.numbered_names i
    (map (λ f. type_of names true f.type) fs)
numbered_same names i [] = refl
numbered_same names i (f ∷ fs) = ap (λ ns. decimal i ∷ ns) (numbered_same names (suc i) fs)

named_same : (names : Means) (fs : List FieldItem) → map (λ f. field_name f.name) fs ≡ map (λ (f : MField). f.name)
    (map (field_of names) fs)
named_same names [] = refl
named_same names (f ∷ fs) = ap (λ ns. field_name f.name ∷ ns) (named_same names fs)

form_same : (names : Means) (form : FormTree) → form_names form ≡ declared.form_names (form_of names form)
form_same names Unit = refl
form_same names (forms.Tuple fs) = numbered_same names 0 fs
form_same names (forms.Brace fs) = named_same names fs

-- the names of a struct's fields
struct_same : (names : Means) (o : Option ItemTree) → is_some (struct_form o) ≡ true →
    struct_names o ≡ declared.field_names (slice_get (declared_variants (option_map (item_of names) o)) 0)
struct_same names None h = absurd cc
struct_same names (Some x) h = by x.kind refl
  where
    by : (k : KindTree) → x.kind ≡ k → struct_names (Some x) ≡ declared.field_names
        (slice_get (declared_variants (option_map (item_of names) (Some x))) 0)
    by (Struct name form) e = rw e (form_same names form)
    by (Enum name variants) e = absurd (let g : is_some (kind_form (Enum name variants)) ≡ true = subst
        (λ (k : KindTree). is_some (kind_form k) ≡ true) e h in cc)
    by (Import owner listed) e = absurd (let g : is_some (kind_form (Import owner listed)) ≡ true = subst
        (λ (k : KindTree). is_some (kind_form k) ≡ true) e h in cc)
    by (Function name parameter deref arms) e = absurd (let g : is_some
        (kind_form (Function name parameter deref arms)) ≡ true = subst (λ (k : KindTree). is_some (kind_form k) ≡
        true) e h in cc)

-- a variant that may be there
variant_same : (names : Means) (o : Option VariantTree) → variant_names o ≡ declared.field_names
    (option_map (variant_of names) o)
variant_same names None = refl
variant_same names (Some v) = form_same names v.form

-- the names of the fields of an enum's variant
enum_same : (names : Means) (o : Option ItemTree) (k : ℕ) → is_some (form_at (map named_variant (item_variants o))
    (Some k)) ≡ true →
    variant_names (slice_get (item_variants o) k) ≡ declared.field_names
    (slice_get (declared_variants (option_map (item_of names) o)) k)
enum_same names None k h = absurd cc
enum_same names (Some x) k h = by x.kind refl
  where
    by : (kind : KindTree) → x.kind ≡ kind → variant_names (slice_get (item_variants (Some x)) k) ≡
        declared.field_names (slice_get (declared_variants (option_map (item_of names) (Some x))) k)
    by (Enum name variants) e = rw (e, get_map (variant_of names) variants k)
        (variant_same names (slice_get variants k))
    by (Struct name form) e = absurd (let g : is_some (form_at [] (Some k)) ≡ true = subst (λ (i : KindTree). is_some
        (form_at (map named_variant (kind_variants i)) (Some k)) ≡ true) e h in cc)
    by (Import owner listed) e = absurd (let g : is_some (form_at [] (Some k)) ≡ true = subst
        (λ (i : KindTree). is_some (form_at (map named_variant (kind_variants i)) (Some k)) ≡ true) e h in cc)
    by (Function name parameter deref arms) e = absurd (let g : is_some (form_at [] (Some k)) ≡ true = subst
        (λ (i : KindTree). is_some (form_at (map named_variant (kind_variants i)) (Some k)) ≡ true) e h in cc)

-- a variant of `Option`
option_same : (items : List ItemTree) (k : ℕ) (ts : MTypes) (program : MProgram) →
    field_names items (FoundVariant OptionOwner k) ≡ declared.field_names
    (type_variant program (NamedType OptionOwner ts) k)
option_same items zero ts program = refl
option_same items (suc zero) ts program = refl
option_same items (suc (suc k)) ts program = refl

-- a variant of `Result`
result_same : (items : List ItemTree) (k : ℕ) (ts : MTypes) (program : MProgram) →
    field_names items (FoundVariant ResultOwner k) ≡ declared.field_names
    (type_variant program (NamedType ResultOwner ts) k)
result_same items zero ts program = refl
result_same items (suc zero) ts program = refl
result_same items (suc (suc k)) ts program = refl

-- the names of the fields of what was found are those of the variant of the type
pub names_same : (items : List ItemTree) (width : Width) (told : FoundTree) (t : MType) →
    is_some (found_form items told) ≡ true →
    IsTrue (is_type (program_of items width) t) → meets told t ≡ true → field_names items told ≡ declared.field_names
    (type_variant (program_of items width) t (found_number told))
names_same items width (FoundStruct i) (NamedType (DeclaredItem j) ts) there type met =
    let same : i ≡ j = numbers_are_one i j met in
    struct_same (means items) (slice_get items i) there
    ∙ ap (λ (o : Option MItem). declared.field_names (slice_get (declared_variants o) 0))
    (sym (get_map (item_of (means items)) items i))
    ∙ ap (λ (n : ℕ). declared.field_names (slice_get (declared_variants (slice_get (map (item_of (means items)) items)
    n)) 0)) same
    ∙ sym (names_filled ts (declared_variants (slice_get (map (item_of (means items)) items) j)) 0)
names_same items width (FoundVariant (DeclaredItem i) k) (NamedType (DeclaredItem j) ts) there type met =
    let same : i ≡ j = numbers_are_one i j met in
    enum_same (means items) (slice_get items i) k there
    ∙ ap (λ (o : Option MItem). declared.field_names (slice_get (declared_variants o) k))
    (sym (get_map (item_of (means items)) items i))
    ∙ ap (λ (n : ℕ). declared.field_names (slice_get (declared_variants (slice_get (map (item_of (means items)) items)
    n)) k)) same
    ∙ sym (names_filled ts (declared_variants (slice_get (map (item_of (means items)) items) j)) k)
names_same items width (FoundVariant OptionOwner k) (NamedType OptionOwner ts) there type met = option_same items k ts
    (program_of items width)
names_same items width (FoundVariant ResultOwner k) (NamedType ResultOwner ts) there type met = result_same items k ts
    (program_of items width)
names_same items width told t there type met = absurd cc

-- the same by the program of a table
pub names_in : (p : MProgram) (items : List ItemTree) (width : Width) (told : FoundTree) (t : MType) →
    p ≡ program_of items width → is_some (found_form items told) ≡ true →
    IsTrue (is_type p t) → meets told t ≡ true → field_names items told ≡ declared.field_names
    (type_variant p t (found_number told))
names_in p items width told t e there type met =
    names_same items width told t there (subst (λ (q : MProgram). IsTrue (is_type q t)) e type) met
    ∙ ap (λ (q : MProgram). declared.field_names (type_variant q t (found_number told))) (sym e)

-- a type that a path meets is no tuple
pub met_is_named : (told : FoundTree) (t : MType) → meets told t ≡ true → is_tuple t ≡ false
met_is_named (FoundStruct i) (TupleType ts) met = absurd cc
met_is_named (FoundVariant o k) (TupleType ts) met = absurd cc
met_is_named FoundNothing t met = absurd cc
met_is_named FoundTwice t met = absurd cc
met_is_named told t met = refl

-- a type that is no tuple has as many fields in a variant as names of fields
pub counted : (p : MProgram) (t : MType) (k : ℕ) → is_tuple t ≡ false → fields_of_type p t k ≡ length
    (declared.field_names (type_variant p t k))
counted p (TupleType ts) k h = absurd cc
counted p (NamedType o ts) k h = by (type_variant p (NamedType o ts) k) refl
  where
    by : (v : Option MVariant) → type_variant p (NamedType o ts) k ≡ v → fields_of_type p (NamedType o ts) k ≡ length
        (declared.field_names (type_variant p (NamedType o ts) k))
    by None e = rw e refl
    by (Some v) e = fields_counted p (NamedType o ts) k v e
        ∙ ap (λ (w : Option MVariant). length (declared.field_names w)) (sym e)
counted p t k h = refl

-- the name of a field by its number
pub name_there : (p : MProgram) (t : MType) (k i : ℕ) → is_tuple t ≡ false → i < fields_of_type p t k →
    slice_get (declared.field_names (type_variant p t k)) i ≡ Some
    (declared.name_or_number (field_name_of (type_variant p t k) i) i)
name_there p t k i h below =
    let more : i < length (declared.field_names (type_variant p t k)) = subst (λ (n : ℕ). i < n) (counted p t k h)
    below in
    by (type_variant p t k) more
  where
    by : (v : Option MVariant) → i < length (declared.field_names v) → slice_get (declared.field_names v) i ≡ Some
        (declared.name_or_number (field_name_of v i) i)
    by None lt = absurd (omega arith)
    by (Some v) lt = name_at v i lt

-- one more name
pub names_more : {A : Type 0} (f : A → List ℕ) (ns : List (List ℕ)) (xs : List A) (x : A) (i : ℕ) →
    map f xs ≡ take i ns → slice_get ns i ≡ Some (f x) →
    map f (xs ++ x ∷ []) ≡ take (i + 1) ns
names_more f ns xs x i e at =
    map-append f xs (x ∷ []) ∙ (ap (λ (ys : List (List ℕ)). ys ++ f x ∷ []) e
    ∙ sym (rw add-one (one_more ns i (f x) at)))
  where
    one_more : (ns : List (List ℕ)) (i : ℕ) (n : List ℕ) → slice_get ns i ≡ Some n → take (suc i) ns ≡ take i ns ++ n
        ∷ []
    one_more [] i n h = absurd cc
    one_more (m ∷ ms) zero n h = let same : m ≡ n = cc in ap (λ (y : List ℕ). y ∷ []) same
    one_more (m ∷ ms) (suc i) n h = ap (λ (ys : List (List ℕ)). m ∷ ys) (one_more ms i n h)
