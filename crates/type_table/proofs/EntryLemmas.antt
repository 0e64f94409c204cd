-- Entries whose types are numbers of nodes that grow.
use Rattle.std.proofs.Common.{◌≡◌, ℕ, ◌+◌, ◌<◌, ◌≤◌, Bool, true, List, [], ◌∷◌, ◌++◌, map, length, Some, None, refl, sym, ap, ◌∙◌, suc, arith, length-append, take, get_or}
use Rattle.std.specs.Rc.{rc_str_bytes}
use Rattle.std.specs.Prelude.{slice_get, nat_lt}
use Rattle.std.specs.List.{list_all, enumerate_from}
use Rattle.std.proofs.lemmas.List.{map-append}
use Rattle.std.proofs.lemmas.Bool.{ltb-true, and_parts, and_from, lt-ltb}
use Rattle.match_model.specs.Types.{MType}
use Rattle.match_model.specs.Declarations.{MField, MForm, TupleForm, MVariant, StructItem, EnumItem, MItem, MProgram}
use Rattle.decl_syntax.specs.Items.{FormTree, KindTree, ItemTree, item_view}
use Rattle.decl_syntax.specs.declared.items.Item.{Item}
use Rattle.decl_syntax.specs.Items as forms
use Rattle.type_names.specs.Meanings.{Means}
use Rattle.type_names.specs.Written.{form_of, field_of, kind_of, item_of, program_of}
use Rattle.type_names.specs.Meanings.{means}
use Rattle.match_model.specs.declared.Width.{Width}
use Rattle.type_table.specs.declared.draft.Draft.{Draft}
use Rattle.type_table.specs.Possible.{program_in}
use Rattle.type_table.specs.Tables.{IsDraftOf}
use Rattle.type_names.specs.Imports.{form_kind}
use Rattle.type_table.specs.declared.nodes.Node.{Node}
use Rattle.type_table.specs.declared.entries.FieldEntry.{FieldEntry}
use Rattle.type_table.specs.declared.entries.VariantEntry.{VariantEntry}
use Rattle.type_table.specs.declared.entries.Entry.{Entry}
use Rattle.type_table.specs.declared.entries.Entry.TheVariants as entries
use Rattle.type_table.specs.Nodes.{type_at, type_there, types_in, Extends}
use Rattle.type_table.specs.Entries.{Told, variant_named, own_type, parameter_of, item_told, items_told, field_entry, variant_entry, entry_told, form_with, form_fields, field_below, variant_below, entry_below}
use Rattle.type_table.proofs.NodeLemmas.{types_stay}
use Rattle.type_table.proofs.TypeNodes.{id_below}
use Rattle.type_names.proofs.Places.{front_more, length_front}

-- what holds of each item of a list
pub map_same : {E M : Type 0} (p : E → Bool) (f g : E → M) → ((e : E) → p e ≡ true → f e ≡ g e) → (es : List E) → list_all p es ≡ true → map f es ≡ map g es
map_same p f g h [] all = refl
map_same p f g h (e ∷ es) all =
    let halves = and_parts (p e) (list_all p es) all in
    ap (λ x. x ∷ map f es) (h e halves.0) ∙ ap (λ xs. g e ∷ xs) (map_same p f g h es halves.1)

pub all_weaker : {E : Type 0} (p q : E → Bool) → ((e : E) → p e ≡ true → q e ≡ true) → (es : List E) → list_all p es ≡ true → list_all q es ≡ true
all_weaker p q h [] all = refl
all_weaker p q h (e ∷ es) all =
    let halves = and_parts (p e) (list_all p es) all in
    and_from (q e) (list_all q es) (h e halves.0) (all_weaker p q h es halves.1)

pub all_push : {E : Type 0} (p : E → Bool) (es : List E) (e : E) → list_all p es ≡ true → p e ≡ true → list_all p (es ++ e ∷ []) ≡ true
all_push p [] e all here = and_from (p e) true here refl
all_push p (x ∷ xs) e all here =
    let halves = and_parts (p x) (list_all p xs) all in
    and_from (p x) (list_all p (xs ++ e ∷ [])) halves.0 (all_push p xs e halves.1 here)

longer : (old new : List Node) → Extends old new → length old ≤ length new
longer old new more = let e : length new ≡ length (old ++ more.0) = ap length more.1 in omega (arith, length-append {A = Node})

below_longer : (i m n : ℕ) → m ≤ n → nat_lt i m ≡ true → nat_lt i n ≡ true
below_longer i m n le h = grind arith

pub type_same : (old new : List Node) (i : ℕ) → Extends old new → nat_lt i (length old) ≡ true → type_at (types_in new) i ≡ type_at (types_in old) i
type_same old new i more h = ap type_there (types_stay old new i more (ltb-true i (length old) h))

module _ (old new : List Node) (more : Extends old new) where
  pub field_same : (f : FieldEntry) → field_below (length old) f ≡ true → field_entry (types_in new) f ≡ field_entry (types_in old) f
  field_same f h = ap (λ (t : MType). field (rc_str_bytes f.name) t) (type_same old new f.ty more h)
    where
      field : List ℕ → MType → MField
      field name t = record { name = name; type = t }

  pub field_still : (f : FieldEntry) → field_below (length old) f ≡ true → field_below (length new) f ≡ true
  field_still f h = below_longer f.ty (length old) (length new) (longer old new more) h

  pub variant_same : (v : VariantEntry) → variant_below (length old) v ≡ true → variant_entry (types_in new) v ≡ variant_entry (types_in old) v
  variant_same v h = ap (λ (fs : List MField). variant (rc_str_bytes v.name) (form_with v.form fs)) (map_same (field_below (length old)) (field_entry (types_in new)) (field_entry (types_in old)) field_same v.fields.items h)
    where
      variant : List ℕ → MForm → MVariant
      variant name form = record { name = name; form = form }

  pub variant_still : (v : VariantEntry) → variant_below (length old) v ≡ true → variant_below (length new) v ≡ true
  variant_still v h = all_weaker (field_below (length old)) (field_below (length new)) field_still v.fields.items h

  pub entry_same : (e : Entry) → entry_below (length old) e ≡ true → entry_told (types_in new) e ≡ entry_told (types_in old) e
  entry_same (entries.Struct id variant) h =
      let halves = and_parts (nat_lt id (length old)) (variant_below (length old) variant) h in
      rw (type_same old new id more halves.0, variant_same variant halves.1) refl
  entry_same (entries.Enum id name later variants) h =
      let halves = and_parts (nat_lt id (length old)) (list_all (variant_below (length old)) variants.items) h in
      rw (type_same old new id more halves.0, map_same (variant_below (length old)) (variant_entry (types_in new)) (variant_entry (types_in old)) variant_same variants.items halves.1) refl
  entry_same (entries.Function param deref) h = rw (type_same old new param more h) refl
  entry_same entries.Import h = refl

  pub entry_still : (e : Entry) → entry_below (length old) e ≡ true → entry_below (length new) e ≡ true
  entry_still (entries.Struct id variant) h =
      let halves = and_parts (nat_lt id (length old)) (variant_below (length old) variant) h in
      and_from (nat_lt id (length new)) (variant_below (length new) variant) (below_longer id (length old) (length new) (longer old new more) halves.0) (variant_still variant halves.1)
  entry_still (entries.Enum id name later variants) h =
      let halves = and_parts (nat_lt id (length old)) (list_all (variant_below (length old)) variants.items) h in
      and_from (nat_lt id (length new)) (list_all (variant_below (length new)) variants.items) (below_longer id (length old) (length new) (longer old new more) halves.0)
      (all_weaker (variant_below (length old)) (variant_below (length new)) variant_still variants.items halves.1)
  entry_still (entries.Function param deref) h = below_longer param (length old) (length new) (longer old new more) h
  entry_still entries.Import h = refl

-- a list of entries with one more
pub entries_more : {E M : Type 0} (view : List MType → E → M) (below : ℕ → E → Bool) (old new : List Node) (es pushed : List E) (e : E) (ms : List M) (m : M) →
    ((x : E) → below (length old) x ≡ true → view (types_in new) x ≡ view (types_in old) x) →
    ((x : E) → below (length old) x ≡ true → below (length new) x ≡ true) →
    list_all (below (length old)) es ≡ true → map (view (types_in old)) es ≡ ms → below (length new) e ≡ true → view (types_in new) e ≡ m → pushed ≡ es ++ e ∷ [] →
    (list_all (below (length new)) pushed ≡ true) × (map (view (types_in new)) pushed ≡ ms ++ m ∷ [])
entries_more {E} {M} view below old new es pushed e ms m same still all are here is more = (
  ap (list_all (below (length new))) more ∙ all_push (below (length new)) es e (all_weaker (below (length old)) (below (length new)) still es all) here,
  ap (map (view (types_in new))) more
      ∙ (map-append (view (types_in new)) es (e ∷ [])
      ∙ (ap (λ (xs : List M). xs ++ view (types_in new) e ∷ []) (map_same (below (length old)) (view (types_in new)) (view (types_in old)) same es all ∙ are)
      ∙ ap (λ (x : M). ms ++ x ∷ []) is)),
)

pub map_map : {A B C : Type 0} (f : B → C) (g : A → B) (xs : List A) → map f (map g xs) ≡ map (λ x. f (g x)) xs
map_map f g [] = refl
map_map f g (x ∷ xs) = ap (λ ys. f (g x) ∷ ys) (map_map f g xs)

-- a form by its kind and its fields
pub form_is : (names : Means) (form : FormTree) → form_with (form_kind form) (form_fields names form) ≡ form_of names form
form_is names (forms.Tuple fields) = ap TupleForm (map_map (λ f. f.type) (field_of names) fields)
form_is names _ = refl

-- a number whose type is known is below that of the nodes
pub id_test : (ks : List Node) (i : ℕ) (t : MType) → slice_get (types_in ks) i ≡ Some t → nat_lt i (length ks) ≡ true
id_test ks i t h = lt-ltb i (length ks) (id_below ks i t h)

pub map_front_more : {A B C : Type 0} (g : B → C) (f : A → B) (xs : List A) (i : ℕ) (x : A) → i < length xs → x ≡ get_or xs i x →
    map g (map f (take (i + 1) xs)) ≡ map g (map f (take i xs)) ++ g (f x) ∷ []
map_front_more g f xs i x lt is = ap (map g) (front_more f xs i x lt is) ∙ map-append g (map f (take i xs)) (f x ∷ [])

-- a variant by its parts
pub variant_told : (types : List MType) (v : VariantEntry) (name : List ℕ) (names : Means) (form : FormTree) → rc_str_bytes v.name ≡ name → v.form ≡ form_kind form →
    map (field_entry types) v.fields.items ≡ form_fields names form → variant_entry types v ≡ variant_named name (form_of names form)
variant_told types v name names form e f g = rw (e, f, g, form_is names form) refl

-- what an item of that kind says
abbrev pub kind_told : Means → ℕ → Bool → KindTree → Told
kind_told names i marked kind = record { item = kind_of names marked kind; own = own_type i kind; parameter = parameter_of names kind }

abbrev pub enum_as : List ℕ → Bool → List MVariant → MType → Told
enum_as name later variants own = record { item = EnumItem name later variants; own = Some own; parameter = None }

pub enum_equal : (name name' : List ℕ) (later later' : Bool) (vs vs' : List MVariant) (own own' : MType) → name ≡ name' → later ≡ later' → vs ≡ vs' → own ≡ own' →
    enum_as name later vs own ≡ enum_as name' later' vs' own'
enum_equal name name' later later' vs vs' own own' e f g h = rw (e, f, g, h) refl

abbrev pub struct_as : MVariant → MType → Told
struct_as variant own = record { item = StructItem variant; own = Some own; parameter = None }

pub struct_equal : (v v' : MVariant) (own own' : MType) → v ≡ v' → own ≡ own' → struct_as v own ≡ struct_as v' own'
struct_equal v v' own own' g h = rw (g, h) refl

enumerate_push : {A : Type 0} (n : ℕ) (xs : List A) (y : A) → enumerate_from n (xs ++ y ∷ []) ≡ enumerate_from n xs ++ (n + length xs, y) ∷ []
enumerate_push {A} n [] y = let none : n ≡ n + 0 = omega arith in ap (λ (m : ℕ). one m) none
  where
    one : ℕ → List (ℕ × A)
    one m = (m, y) ∷ []
enumerate_push {A} n (x ∷ xs) y =
    let moved : (n + 1) + length xs ≡ n + suc (length xs) = omega arith in
    ap (λ (ps : List (ℕ × A)). (n, x) ∷ ps) (enumerate_push (n + 1) xs y ∙ ap (λ (m : ℕ). ended m) moved)
  where
    ended : ℕ → List (ℕ × A)
    ended m = enumerate_from (n + 1) xs ++ (m, y) ∷ []

pub told_push : (names : Means) (xs : List ItemTree) (y : ItemTree) (i : ℕ) → length xs ≡ i → items_told names (xs ++ y ∷ []) ≡ items_told names xs ++ item_told names i y ∷ []
told_push names xs y i e =
    let at : 0 + length xs ≡ i = omega arith in
    ap (map told) (enumerate_push 0 xs y)
    ∙ (map-append told (enumerate_from 0 xs) ((0 + length xs, y) ∷ [])
    ∙ ap (λ (m : ℕ). items_told names xs ++ item_told names m y ∷ []) at)
  where
    told : ℕ × ItemTree → Told
    told p = item_told names p.0 p.1

pub told_more : (names : Means) (items : List Item) (i : ℕ) (item : Item) → i < length items → item ≡ get_or items i item →
    items_told names (map item_view (take (i + 1) items)) ≡ items_told names (map item_view (take i items)) ++ item_told names i (item_view item) ∷ []
told_more names items i item lt is =
    ap (items_told names) (front_more item_view items i item lt is) ∙ told_push names (map item_view (take i items)) (item_view item) i (length_front item_view items i lt)

pub told_items : (names : Means) (n : ℕ) (items : List ItemTree) → map (λ x. x.item) (map (λ p. item_told names p.0 p.1) (enumerate_from n items)) ≡ map (item_of names) items
told_items names n [] = refl
told_items names n (i ∷ items) = ap (λ is. item_of names i ∷ is) (told_items names (n + 1) items)

-- a draft's program is that of its file
pub program_is : (items : List ItemTree) (width : Width) (d : Draft) → IsDraftOf items width d → program_in width d.nodes.keys d.items.items ≡ program_of items width
program_is items width d h =
    ap (λ (is : List MItem). program is)
    (sym (map_map {C = MItem} (λ x. x.item) (entry_told (types_in d.nodes.keys)) d.items.items)
    ∙ (ap (map {B = MItem} (λ x. x.item)) h.told ∙ told_items (means items) 0 items))
  where
    program : List MItem → MProgram
    program is = record { items = is; width = width }
