-- Each variant of a type, and each field of a form, is the first of its name where no item of the file breaks a rule.
use Rattle.std.proofs.Common.{◌≡◌, ℕ, zero, suc, Bool, true, false, ◌||◌, List, [], ◌∷◌, ◌++◌, map, slice_get, Option, Some, None, option_map, position, refl, sym, subst, ap, ◌∙◌, bytes_eq}
use Rattle.std.proofs.lemmas.Option.{slice_get-map}
use Rattle.std.proofs.lemmas.Slice.Eq.{bytes_eq-Decides}
use Rattle.std.specs.List.{list_any}
use Rattle.match_model.specs.declared.Width.{Width}
use Rattle.match_model.specs.Types.{DeclaredItem, OptionOwner, ResultOwner, MType, BoolType, CharType, StrType, NeverType, IntType, OpaqueType, TupleType, PointType, SliceType, ArrayType, NamedType, MTypes}
use Rattle.match_model.specs.Declarations.{MField, MForm, UnitForm, TupleForm, BraceForm, MVariant, MItem, filled_field, filled_form, filled_variant, parameter, option_item, result_item, item_variants, variants_of}
use Rattle.decl_syntax.specs.Items.{FieldItem, FormTree, Unit, VariantTree, KindTree, Enum, Struct, Import, Function, ItemTree}
use Rattle.decl_syntax.specs.Items as forms
use Rattle.type_names.specs.Meanings.{Means, means}
use Rattle.type_names.specs.NameRules.{is_among, repeats, form_has_field_twice, has_variant_twice, has_field_twice}
use Rattle.type_names.specs.Rules.{passes, item_test, breaks_at}
use Rattle.type_names.specs.Written.{field_of, form_of, variant_of, kind_of, item_of, is_marked_by, program_of, field_name}
use Rattle.type_names.specs.declared.item_rules.ItemRule.TheVariants as rules
use Rattle.type_names.proofs.Places.{position_hit, position_skip, position_map}
use Rattle.type_table.specs.Faults.{BreaksNone, variant_twice, field_twice}

pub same_name : (name : List ℕ) → bytes_eq name name ≡ true
same_name name = (bytes_eq-Decides name name).1 refl

neither : (b c : Bool) → (b || c) ≡ false → (b ≡ false) × (c ≡ false)
neither false c h = (refl, h)
neither true c h = absurd cc

-- a list of names without repetition

last_unlike : (name other : List ℕ) (before : List (List ℕ)) → is_among name (before ++ other ∷ []) ≡ false → bytes_eq name other ≡ false
last_unlike name other [] h = (neither (bytes_eq name other) false h).0
last_unlike name other (b ∷ bs) h = last_unlike name other bs (neither (bytes_eq name b) (is_among name (bs ++ other ∷ [])) h).1

others_unlike : (name other : List ℕ) (before : List (List ℕ)) → is_among name (before ++ other ∷ []) ≡ false → is_among name before ≡ false
others_unlike name other [] h = refl
others_unlike name other (b ∷ bs) h =
    let both = neither (bytes_eq name b) (is_among name (bs ++ other ∷ [])) h in
    rw both.0 (others_unlike name other bs both.1)

unlike_before : (before names : List (List ℕ)) (k : ℕ) (name : List ℕ) → repeats before names ≡ false →
    slice_get names k ≡ Some name → is_among name before ≡ false
unlike_before before [] k name h e = absurd cc
unlike_before before (n ∷ ns) zero name h e =
    let same : n ≡ name = cc in
    ap (λ m. is_among m before) (sym same) ∙ (neither (is_among n before) (repeats (before ++ n ∷ []) ns) h).0
unlike_before before (n ∷ ns) (suc k) name h e =
    others_unlike name n before (unlike_before (before ++ n ∷ []) ns k name (neither (is_among n before) (repeats (before ++ n ∷ []) ns) h).1 e)

own_place : (before names : List (List ℕ)) (k : ℕ) (name : List ℕ) → repeats before names ≡ false → slice_get names k ≡ Some name →
    position (bytes_eq name) names ≡ Some k
own_place before [] k name h e = absurd cc
own_place before (n ∷ ns) zero name h e =
    let same : n ≡ name = cc in
    position_hit (bytes_eq name) n ns (ap (bytes_eq name) same ∙ same_name name)
own_place before (n ∷ ns) (suc k) name h e =
    let later = (neither (is_among n before) (repeats (before ++ n ∷ []) ns) h).1 in
    position_skip (bytes_eq name) n ns (last_unlike name n before (unlike_before (before ++ n ∷ []) ns k name later e))
    ∙ ap (option_map suc) (own_place (before ++ n ∷ []) ns k name later e)

-- the same of things with names
pub named_place : {A : Type 0} (name_of : A → List ℕ) (xs : List A) (k : ℕ) (x : A) → repeats [] (map name_of xs) ≡ false →
    slice_get xs k ≡ Some x → position (λ y. bytes_eq (name_of x) (name_of y)) xs ≡ Some k
named_place name_of xs k x h e =
    sym (position_map name_of (bytes_eq (name_of x)) xs)
    ∙ own_place [] (map name_of xs) k (name_of x) h (slice_get-map name_of xs k ∙ ap (option_map name_of) e)

-- items

variant_names : (names : Means) (vs : List VariantTree) → map (λ (v : MVariant). v.name) (map (variant_of names) vs) ≡ map (λ (v : VariantTree). v.name) vs
variant_names names [] = refl
variant_names names (v ∷ vs) = ap (λ ns. v.name ∷ ns) (variant_names names vs)

field_names : (names : Means) (fs : List FieldItem) → map (λ (f : MField). f.name) (map (field_of names) fs) ≡ map (λ (f : FieldItem). field_name f.name) fs
field_names names [] = refl
field_names names (f ∷ fs) = ap (λ ns. field_name f.name ∷ ns) (field_names names fs)

-- the names of the fields of a form do not repeat
abbrev FormIsOwn : MForm → Type 0
FormIsOwn form = (fields : List MField) → form ≡ BraceForm fields → repeats [] (map (λ (f : MField). f.name) fields) ≡ false

form_own : (names : Means) (form : FormTree) → form_has_field_twice form ≡ false → FormIsOwn (form_of names form)
form_own names Unit h fields e = absurd cc
form_own names (forms.Tuple ts) h fields e = absurd cc
form_own names (forms.Brace fs) h fields e =
    let same : map (field_of names) fs ≡ fields = cc in
    ap (λ (gs : List MField). repeats [] (map (λ (f : MField). f.name) gs)) (sym same) ∙ (ap (repeats []) (field_names names fs) ∙ h)

forms_own : (names : Means) (vs : List VariantTree) (k : ℕ) (v : MVariant) → list_any (λ v. form_has_field_twice v.form) vs ≡ false →
    slice_get (map (variant_of names) vs) k ≡ Some v → FormIsOwn v.form
forms_own names [] k v h e = absurd cc
forms_own names (w ∷ ws) zero v h e =
    let same : variant_of names w ≡ v = cc in
    let own = form_own names w.form (neither (form_has_field_twice w.form) (list_any (λ u. form_has_field_twice u.form) ws) h).0 in
    subst (λ (u : MVariant). FormIsOwn u.form) same own
forms_own names (w ∷ ws) (suc k) v h e =
    forms_own names ws k v (neither (form_has_field_twice w.form) (list_any (λ u. form_has_field_twice u.form) ws) h).1 e

-- the names of the variants of a list, and of the fields of each, do not repeat
pub record AreOwn (vs : List MVariant) : Type 0 where
  pub variants : repeats [] (map (λ (v : MVariant). v.name) vs) ≡ false
  pub fields : (k : ℕ) (v : MVariant) → slice_get vs k ≡ Some v → FormIsOwn v.form

unit_own : FormIsOwn UnitForm
unit_own fields e = absurd cc

tuple_own : (types : List MType) → FormIsOwn (TupleForm types)
tuple_own types fields e = absurd cc

none_there : (k : ℕ) (v : MVariant) → slice_get [] k ≡ Some v → FormIsOwn v.form
none_there k v h = absurd cc

one_there : (u : MVariant) (k : ℕ) (v : MVariant) → FormIsOwn u.form → slice_get (u ∷ []) k ≡ Some v → FormIsOwn v.form
one_there u zero v own h = let same : u ≡ v = cc in subst (λ (w : MVariant). FormIsOwn w.form) same own
one_there u (suc k) v own h = absurd cc

none_own : AreOwn []
none_own = record { variants = refl; fields = none_there }

kind_own : (names : Means) (marked : Bool) (kind : KindTree) → has_variant_twice kind ≡ false → has_field_twice kind ≡ false →
    AreOwn (item_variants (Some (kind_of names marked kind)))
kind_own names marked (Enum name vs) v f =
    record { variants = ap (repeats []) (variant_names names vs) ∙ v; fields = λ k u e. forms_own names vs k u f e }
kind_own names marked (Struct name form) v f =
    record { variants = refl; fields = λ k u e. one_there _ k u (form_own names form f) e }
kind_own names marked (Import owner listed) v f = none_own
kind_own names marked (Function name parameter deref arms) v f = none_own

-- arguments in the place of parameters change no name

names_kept : (args : MTypes) (vs : List MVariant) → map (λ (v : MVariant). v.name) (map (filled_variant args) vs) ≡ map (λ (v : MVariant). v.name) vs
names_kept args [] = refl
names_kept args (v ∷ vs) = ap (λ ns. v.name ∷ ns) (names_kept args vs)

fields_kept : (args : MTypes) (fs : List MField) → map (λ (f : MField). f.name) (map (filled_field args) fs) ≡ map (λ (f : MField). f.name) fs
fields_kept args [] = refl
fields_kept args (f ∷ fs) = ap (λ ns. f.name ∷ ns) (fields_kept args fs)

form_kept : (args : MTypes) (form : MForm) → FormIsOwn form → FormIsOwn (filled_form args form)
form_kept args UnitForm own fields e = absurd cc
form_kept args (TupleForm types) own fields e = absurd cc
form_kept args (BraceForm fs) own fields e =
    let same : map (filled_field args) fs ≡ fields = cc in
    ap (λ (gs : List MField). repeats [] (map (λ (f : MField). f.name) gs)) (sym same) ∙ (ap (repeats []) (fields_kept args fs) ∙ own fs refl)

variant_kept : (args : MTypes) (vs : List MVariant) (k : ℕ) (v : MVariant) → ((j : ℕ) (u : MVariant) → slice_get vs j ≡ Some u → FormIsOwn u.form) →
    slice_get (map (filled_variant args) vs) k ≡ Some v → FormIsOwn v.form
variant_kept args [] k v own e = absurd cc
variant_kept args (u ∷ us) zero v own e =
    let same : filled_variant args u ≡ v = cc in
    subst (λ (w : MVariant). FormIsOwn w.form) same (form_kept args u.form (own 0 u refl))
variant_kept args (u ∷ us) (suc k) v own e = variant_kept args us k v (λ j w at. own (suc j) w at) e

filled_own : (args : MTypes) (vs : List MVariant) → AreOwn vs → AreOwn (map (filled_variant args) vs)
filled_own args vs own = record {
  variants = ap (repeats []) (names_kept args vs) ∙ own.variants;
  fields = λ k v e. variant_kept args vs k v own.fields e;
}

-- `Option` and `Result`

two_there : (u w : MVariant) (k : ℕ) (v : MVariant) → FormIsOwn u.form → FormIsOwn w.form → slice_get (u ∷ w ∷ []) k ≡ Some v → FormIsOwn v.form
two_there u w zero v own other h = let same : u ≡ v = cc in subst (λ (x : MVariant). FormIsOwn x.form) same own
two_there u w (suc k) v own other h = one_there w k v other h

option_own : AreOwn (item_variants (Some option_item))
option_own = record { variants = refl; fields = λ k v h. two_there _ _ k v unit_own (tuple_own (parameter 0 ∷ [])) h }

result_own : AreOwn (item_variants (Some result_item))
result_own = record { variants = refl; fields = λ k v h. two_there _ _ k v (tuple_own (parameter 0 ∷ [])) (tuple_own (parameter 1 ∷ [])) h }

-- the types of a file whose items break no rule

module _ (items : List ItemTree) (width : Width) (none : BreaksNone items width) where
  no_variant_twice : (i : ℕ) → breaks_at rules.VariantTwice items i ≡ false
  no_variant_twice i = by (breaks_at rules.VariantTwice items i) refl
    where
      by : (b : Bool) → breaks_at rules.VariantTwice items i ≡ b → breaks_at rules.VariantTwice items i ≡ false
      by true e = absurd (none i 11 (variant_twice refl e))
      by false e = e

  no_field_twice : (i : ℕ) → breaks_at rules.FieldTwice items i ≡ false
  no_field_twice i = by (breaks_at rules.FieldTwice items i) refl
    where
      by : (b : Bool) → breaks_at rules.FieldTwice items i ≡ b → breaks_at rules.FieldTwice items i ≡ false
      by true e = absurd (none i 12 (field_twice refl e))
      by false e = e

  item_own : (i : ℕ) → AreOwn (item_variants (slice_get (program_of items width).items i))
  item_own i =
      subst (λ (o : Option MItem). AreOwn (item_variants o)) (sym (slice_get-map (item_of (means items)) items i))
      (by (slice_get items i) (no_variant_twice i) (no_field_twice i))
    where
      by : (o : Option ItemTree) → passes (item_test rules.VariantTwice items) o ≡ false →
          passes (item_test rules.FieldTwice items) o ≡ false → AreOwn (item_variants (option_map (item_of (means items)) o))
      by None v f = none_own
      by (Some item) v f = kind_own (means items) (is_marked_by item.attrs) item.kind v f

  -- the names of the variants of a type, and of the fields of each, do not repeat
  pub type_own : (t : MType) → AreOwn (variants_of (program_of items width) t)
  type_own (NamedType (DeclaredItem i) ts) = filled_own ts (item_variants (slice_get (program_of items width).items i)) (item_own i)
  type_own (NamedType OptionOwner ts) = filled_own ts (item_variants (Some option_item)) option_own
  type_own (NamedType ResultOwner ts) = filled_own ts (item_variants (Some result_item)) result_own
  type_own BoolType = none_own
  type_own CharType = none_own
  type_own StrType = none_own
  type_own NeverType = none_own
  type_own (IntType kind) = none_own
  type_own (OpaqueType o ts) = none_own
  type_own (TupleType ts) = none_own
  type_own (PointType mutable t) = none_own
  type_own (SliceType t) = none_own
  type_own (ArrayType t n) = none_own
