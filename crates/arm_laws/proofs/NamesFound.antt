-- The path of a variant of a type finds the variant where no name of the file stands twice.
use Rattle.std.proofs.Common.{◌≡◌, ℕ, zero, suc, ◌+◌, Bool, true, false, ◌||◌, List, [], ◌∷◌, ◌++◌, map, take, slice_get, Option, Some, None, option_map, position, refl, sym, ap, ◌∙◌, bytes_eq, codes, arith}
use Rattle.std.proofs.lemmas.Option.{slice_get-map}
use Rattle.std.proofs.lemmas.Slice.Eq.{bytes_eq-Decides}
use Rattle.std.specs.List.{list_any}
use Rattle.match_model.specs.Types.{MOwner, DeclaredItem, OptionOwner, ResultOwner, NamedType, MTypes}
use Rattle.match_model.specs.Declarations.{MVariant, MItem, filled_variant, option_item, result_item, item_variants, variants_of}
use Rattle.decl_syntax.specs.Items.{FormTree, VariantTree, KindTree, Enum, Struct, Import, Function, ItemTree}
use Rattle.type_names.specs.Meanings.{Means, ItemName, means, is_name, built_in, first_of_two, declared_at}
use Rattle.type_names.specs.Meanings as meanings
use Rattle.type_names.specs.Imports.{named_variant, enum_item, is_enum, meant_enum, enum_of, variant_number}
use Rattle.type_names.specs.Imports as imports
use Rattle.type_names.specs.NameRules.{is_among, repeats, some_among, is_named_twice, taken_names, function_names, value_names, all_names, has_variant_twice}
use Rattle.type_names.specs.Rules.{passes, item_test, named_twice_at, breaks_at}
use Rattle.type_names.specs.declared.item_rules.ItemRule.TheVariants as rules
use Rattle.type_names.specs.Finding.{FoundTree, FoundNothing, FoundStruct, FoundVariant, numbered, variant_in, path_variant, given_by, given_from, or_else, globbed, prelude_variant, name_finds, path_finds}
use Rattle.type_names.specs.Written.{form_of, variant_of, kind_of, item_of, is_marked_by}
use Rattle.type_names.proofs.Places.{position_hit, position_skip, position_map}
use Rattle.pattern_rules.specs.Settings.{Setting, program}
use Rattle.witness_names.specs.Named.{declared_name, name_by}
use Rattle.witness_names.specs.declared.paths.Paths.TheVariants.{Whole}
use Rattle.arm_laws.specs.Patterns.{path_of}
use Rattle.arm_laws.specs.NamedOnce.{IsNamedOnce, IsMeant, declared_as, found_as}
use Rattle.arm_laws.specs.TakesLaws.{NamesAreFound}

-- ---- names

pub same_name : (name : List ℕ) → bytes_eq name name ≡ true
same_name name = (bytes_eq-Decides name name).1 refl

pub neither : (b c : Bool) → (b || c) ≡ false → (b ≡ false) × (c ≡ false)
neither false c h = (refl, h)
neither true c h = absurd cc

none_in : (p : List ℕ → Bool) (xs ys : List (List ℕ)) → list_any p (xs ++ ys) ≡ false →
    (list_any p xs ≡ false) × (list_any p ys ≡ false)
none_in p [] ys h = (refl, h)
none_in p (x ∷ xs) ys h =
    let a = neither (p x) (list_any p (xs ++ ys)) h in
    let b = none_in p xs ys a.1 in
    (rw (a.0, b.0) refl, b.1)

-- a name of a list without repetition is the first of its name
unlike_before : (before names : List (List ℕ)) (k : ℕ) (name : List ℕ) → repeats before names ≡ false →
    slice_get names k ≡ Some name → is_among name before ≡ false
unlike_before before [] k name h e = absurd cc
unlike_before before (n ∷ ns) zero name h e =
    let same : n ≡ name = cc in
    ap (λ m. is_among m before) (sym same) ∙ (neither (is_among n before) (repeats (before ++ n ∷ []) ns) h).0
unlike_before before (n ∷ ns) (suc k) name h e =
    (none_in (bytes_eq name) before (n ∷ []) (unlike_before (before ++ n ∷ []) ns k name
    (neither (is_among n before) (repeats (before ++ n ∷ []) ns) h).1 e)).0

last_unlike : (name other : List ℕ) (before : List (List ℕ)) → is_among name (before ++ other ∷ []) ≡ false →
    bytes_eq name other ≡ false
last_unlike name other before h =
    (neither (bytes_eq name other) false (none_in (bytes_eq name) before (other ∷ []) h).1).0

pub own_place : (before names : List (List ℕ)) (k : ℕ) (name : List ℕ) → repeats before names ≡ false →
    slice_get names k ≡ Some name → position (bytes_eq name) names ≡ Some k
own_place before [] k name h e = absurd cc
own_place before (n ∷ ns) zero name h e =
    let same : n ≡ name = cc in
    position_hit (bytes_eq name) n ns (ap (bytes_eq name) same ∙ same_name name)
own_place before (n ∷ ns) (suc k) name h e =
    let later = (neither (is_among n before) (repeats (before ++ n ∷ []) ns) h).1 in
    position_skip (bytes_eq name) n ns
    (last_unlike name n before (unlike_before (before ++ n ∷ []) ns k name later e))
    ∙ ap (option_map suc) (own_place (before ++ n ∷ []) ns k name later e)

-- the first thing of a list with the name of one of its things, where no name stands twice
pub named_place : {A : Type 0} (name_of : A → List ℕ) (xs : List A) (k : ℕ) (x : A) →
    repeats [] (map name_of xs) ≡ false →
    slice_get xs k ≡ Some x → position (λ y. bytes_eq (name_of x) (name_of y)) xs ≡ Some k
named_place name_of xs k x h e =
    sym (position_map name_of (bytes_eq (name_of x)) xs)
    ∙ own_place [] (map name_of xs) k (name_of x) h (slice_get-map name_of xs k ∙ ap (option_map name_of) e)

-- ---- items

-- an item that does not take the name gives nothing to it
given_none : (all : List ItemTree) (name : List ℕ) (n : ℕ) (kind : KindTree) → is_among name (taken_names kind)
    ≡ false →
    given_by all name n kind ≡ FoundNothing
given_none all name n (Enum m variants) h = refl
given_none all name n (Struct m form) h = rw ((neither (bytes_eq name m) false h).0) refl
given_none all name n (Import owner (Some names)) h = rw h refl
given_none all name n (Import owner None) h = refl
given_none all name n (Function m parameter deref arms) h = refl

not_declared : (name : List ℕ) (kind : KindTree) → is_among name (taken_names kind) ≡ false →
    is_name name (meanings.declared_name kind) ≡ false
not_declared name (Enum m variants) h = (neither (bytes_eq name m) false h).0
not_declared name (Struct m form) h = (neither (bytes_eq name m) false h).0
not_declared name (Import owner names) h = refl
not_declared name (Function m parameter deref arms) h = refl

-- a struct is found where no item before it takes its name
given_struct : (all : List ItemTree) (name : List ℕ) (form : FormTree) (n : ℕ) (xs : List ItemTree) (i : ℕ)
    (x : ItemTree) →
    slice_get xs i ≡ Some x → x.kind ≡ Struct name form → is_among name (all_names taken_names (take i xs)) ≡ false →
    given_from all name n xs ≡ FoundStruct (n + i)
given_struct all name form n [] i x e k h = absurd cc
given_struct all name form n (y ∷ xs) zero x e k h =
    let same : y ≡ x = cc in
    let here : given_by all name n y.kind ≡ FoundStruct n =
    ap (λ (z : ItemTree). given_by all name n z.kind) same ∙ ap (given_by all name n) k
    ∙ rw (same_name name) refl in
    let z : n ≡ n + 0 = omega arith in
    ap (λ f. or_else f (given_from all name (n + 1) xs)) here ∙ ap FoundStruct z
given_struct all name form n (y ∷ xs) (suc i) x e k h =
    let p = none_in (bytes_eq name) (taken_names y.kind) (all_names taken_names (take i xs)) h in
    let z : (n + 1) + i ≡ n + suc i = omega arith in
    ap (λ f. or_else f (given_from all name (n + 1) xs)) (given_none all name n y.kind p.0)
    ∙ given_struct all name form (n + 1) xs i x e k p.1 ∙ ap FoundStruct z

-- an enum or struct is the first of its name where no item before it takes the name
declared_first : (name : List ℕ) (xs : List ItemTree) (i : ℕ) (x : ItemTree) → slice_get xs i ≡ Some x →
    meanings.declared_name x.kind ≡ Some name → is_among name (all_names taken_names (take i xs)) ≡ false →
    declared_at xs name ≡ Some i
declared_first name [] i x e k h = absurd cc
declared_first name (y ∷ xs) zero x e k h =
    let same : y ≡ x = cc in
    position_hit (λ (z : ItemTree). is_name name (meanings.declared_name z.kind)) y xs
    (ap (λ (z : ItemTree). is_name name (meanings.declared_name z.kind)) same ∙ ap (is_name name) k ∙ same_name name)
declared_first name (y ∷ xs) (suc i) x e k h =
    let p = none_in (bytes_eq name) (taken_names y.kind) (all_names taken_names (take i xs)) h in
    position_skip (λ (z : ItemTree). is_name name (meanings.declared_name z.kind)) y xs
    (not_declared name y.kind p.0)
    ∙ ap (option_map suc) (declared_first name xs i x e k p.1)

module _ (s : Setting) (once : IsNamedOnce s) where
  -- no item before this one takes its name
  not_before : (i : ℕ) (x : ItemTree) (name : List ℕ) → slice_get s.items i ≡ Some x →
      taken_names x.kind ≡ name ∷ [] → is_among name (all_names taken_names (take i s.items)) ≡ false
  not_before i x name e k =
      let before = take i s.items in
      let types = all_names taken_names before in
      let functions = all_names function_names before in
      let values = all_names (value_names s.items) before in
      let t : is_named_twice s.items before x.kind ≡ false =
      ap (passes (λ (item : ItemTree). is_named_twice s.items before item.kind)) (sym e) ∙ once.items i in
      let a = neither (repeats types (taken_names x.kind))
      (some_among (function_names x.kind) functions || (some_among (function_names x.kind) values
      || some_among (value_names s.items x.kind) functions)) t in
      (neither (is_among name types) (repeats (types ++ name ∷ []) []) (ap (repeats types) (sym k) ∙ a.0)).0

  -- the enum of the item
  enum_found : (i : ℕ) (x : ItemTree) (name : List ℕ) (variants : List VariantTree) → slice_get s.items i ≡ Some x →
      x.kind ≡ Enum name variants → enum_of s.items name ≡ Some (DeclaredItem i)
  enum_found i x name variants e k =
      ap (λ o. meant_enum s.items (first_of_two (option_map ItemName o) (built_in name)))
      (declared_first name s.items i x e (ap meanings.declared_name k) (not_before i x name e (ap taken_names k)))
      ∙ ap (enum_item i) e ∙ ap (λ z. enum_item i (Some (record x { kind = z }))) k

  variant_found : (i : ℕ) (x : ItemTree) (name : List ℕ) (variants : List VariantTree) (k : ℕ) (v : VariantTree) →
      slice_get s.items i ≡ Some x → x.kind ≡ Enum name variants → slice_get variants k ≡ Some v →
      variant_number s.items (DeclaredItem i) v.name ≡ Some k
  variant_found i x name variants k v e kind there =
      let twice : has_variant_twice (Enum name variants) ≡ false =
      ap has_variant_twice (sym kind) ∙ ap (passes (item_test rules.VariantTwice s.items)) (sym e)
      ∙ once.variants i in
      ap (λ (o : Option ItemTree). position (λ w. is_name v.name (Some w.0)) (map named_variant (imports.item_variants o))) e
      ∙ ap (λ z. position (λ w. is_name v.name (Some w.0)) (map named_variant (imports.kind_variants z))) kind
      ∙ position_map named_variant (λ w. is_name v.name (Some w.0)) variants
      ∙ named_place (λ (w : VariantTree). w.name) variants k v twice there

  -- a variant of the program is one of the file
  written_variant : (names : Means) (arguments : MTypes) (variants : List VariantTree) (k : ℕ) (v : MVariant) →
      slice_get (map (filled_variant arguments) (map (variant_of names) variants)) k ≡ Some v →
      (w : VariantTree) × (slice_get variants k ≡ Some w) × (w.name ≡ v.name)
  written_variant names arguments [] k v h = absurd cc
  written_variant names arguments (w ∷ ws) zero v h =
      let same : filled_variant arguments (variant_of names w) ≡ v = cc in
      (w, refl, ap (λ (u : MVariant). u.name) same)
  written_variant names arguments (w ∷ ws) (suc k) v h = written_variant names arguments ws k v h

  by_kind : (i : ℕ) (x : ItemTree) (arguments : MTypes) (k : ℕ) (v : MVariant) → slice_get s.items i ≡ Some x →
      (marked : Bool) (kind : KindTree) → x.kind ≡ kind →
      slice_get (map (filled_variant arguments) (item_variants (Some (kind_of (means s.items) marked kind)))) k ≡ Some v →
      path_finds s.items (path_of (declared_name (Some (kind_of (means s.items) marked kind)) v.name))
      ≡ declared_as (Some (kind_of (means s.items) marked kind)) i k
  by_kind i x arguments zero v e marked (Struct name form) kind h =
      let same : filled_variant arguments (record { name = name; form = form_of (means s.items) form }) ≡ v = cc in
      let z : 0 + i ≡ i = omega arith in
      ap (λ (u : MVariant). name_finds s.items u.name) (sym same)
      ∙ ap (λ f. or_else f (or_else (globbed s.items name) (prelude_variant name)))
      (given_struct s.items name form 0 s.items i x e kind (not_before i x name e (ap taken_names kind)))
      ∙ ap FoundStruct z
  by_kind i x arguments (suc k) v e marked (Struct name form) kind h = absurd cc
  by_kind i x arguments k v e marked (Enum name variants) kind h =
      let w = written_variant (means s.items) arguments variants k v h in
      ap (λ o. variant_in s.items o v.name) (enum_found i x name variants e kind)
      ∙ ap (λ n. numbered (DeclaredItem i) (variant_number s.items (DeclaredItem i) n)) (sym w.2)
      ∙ ap (numbered (DeclaredItem i)) (variant_found i x name variants k w.0 e kind w.1)
  by_kind i x arguments k v e marked (Import owner names) kind h = absurd cc
  by_kind i x arguments k v e marked (Function name parameter deref arms) kind h = absurd cc

  by_item : (i : ℕ) (arguments : MTypes) (k : ℕ) (v : MVariant) (o : Option ItemTree) → slice_get s.items i ≡ o →
      slice_get (map (filled_variant arguments) (item_variants (option_map (item_of (means s.items)) o))) k ≡ Some v →
      path_finds s.items (path_of (declared_name (option_map (item_of (means s.items)) o) v.name))
      ≡ declared_as (option_map (item_of (means s.items)) o) i k
  by_item i arguments k v None e h = absurd cc
  by_item i arguments k v (Some x) e h = by_kind i x arguments k v e (is_marked_by x.attrs) x.kind refl h

  -- the variants of `Option` and `Result`
  option_found : (arguments : MTypes) (k : ℕ) (v : MVariant) → IsMeant s OptionOwner →
      slice_get (map (filled_variant arguments) (item_variants (Some option_item))) k ≡ Some v →
      variant_in s.items (enum_of s.items (codes "Option")) v.name ≡ FoundVariant OptionOwner k
  option_found arguments zero v m h =
      let same : 78 ∷ 111 ∷ 110 ∷ 101 ∷ [] ≡ v.name = cc in
      ap (λ o. variant_in s.items o v.name) m ∙ ap (variant_in s.items (Some OptionOwner)) (sym same)
  option_found arguments (suc zero) v m h =
      let same : 83 ∷ 111 ∷ 109 ∷ 101 ∷ [] ≡ v.name = cc in
      ap (λ o. variant_in s.items o v.name) m ∙ ap (variant_in s.items (Some OptionOwner)) (sym same)
  option_found arguments (suc (suc k)) v m h = absurd cc

  result_found : (arguments : MTypes) (k : ℕ) (v : MVariant) → IsMeant s ResultOwner →
      slice_get (map (filled_variant arguments) (item_variants (Some result_item))) k ≡ Some v →
      variant_in s.items (enum_of s.items (codes "Result")) v.name ≡ FoundVariant ResultOwner k
  result_found arguments zero v m h =
      let same : 79 ∷ 107 ∷ [] ≡ v.name = cc in
      ap (λ o. variant_in s.items o v.name) m ∙ ap (variant_in s.items (Some ResultOwner)) (sym same)
  result_found arguments (suc zero) v m h =
      let same : 69 ∷ 114 ∷ 114 ∷ [] ≡ v.name = cc in
      ap (λ o. variant_in s.items o v.name) m ∙ ap (variant_in s.items (Some ResultOwner)) (sym same)
  result_found arguments (suc (suc k)) v m h = absurd cc

  pub path_found : (owner : MOwner) (arguments : MTypes) (k : ℕ) (v : MVariant) → IsMeant s owner →
      slice_get (variants_of (program s) (NamedType owner arguments)) k ≡ Some v →
      path_finds s.items (path_of (name_by Whole (program s) (NamedType owner arguments) v.name))
      ≡ found_as (program s) owner k
  path_found (DeclaredItem i) arguments k v m h =
      let at : slice_get (program s).items i ≡ option_map (item_of (means s.items)) (slice_get s.items i) =
      slice_get-map (item_of (means s.items)) s.items i in
      ap (λ (o : Option MItem). path_finds s.items (path_of (declared_name o v.name))) at
      ∙ by_item i arguments k v (slice_get s.items i) refl
      (ap (λ (o : Option MItem). slice_get (map (filled_variant arguments) (item_variants o)) k) (sym at) ∙ h)
      ∙ ap (λ (o : Option MItem). declared_as o i k) (sym at)
  path_found OptionOwner arguments k v m h = option_found arguments k v m h
  path_found ResultOwner arguments k v m h = result_found arguments k v m h

pub names_are_found : NamesAreFound
names_are_found s once owner arguments k v m h = path_found s once owner arguments k v m h
