-- The names of a file mean only items that declare a type, so the types of its table are known.
use Rattle.std.proofs.Common.{◌≡◌, ℕ, zero, suc, Bool, true, false, not, List, [], ◌∷◌, map, length, Option, Some, None, refl, sym, ap, ◌∙◌}
use Rattle.std.specs.Prelude.{slice_get, slice_index_or, position, option_map, is_some, if◌then◌else◌}
use Rattle.std.specs.List.{All, list_all}
use Rattle.std.specs.Str.{bytes_eq}
use Rattle.std.proofs.lemmas.Bool.{and_parts}
use Rattle.std.proofs.lemmas.List.Sums.{AllPass-from_list_all}
use Rattle.match_model.specs.Types.{MType}
use Rattle.decl_syntax.specs.Items.{KindTree, Import, Function, ItemTree}
use Rattle.type_names.specs.declared.meanings.Owner.TheVariants as owners
use Rattle.type_names.specs.declared.names.Names.{Names}
use Rattle.type_names.specs.Meanings.{Meaning, ItemName, Means, means, declared_name, is_name, declared_at, built_in_types, entry_of, built_in, first_of_two}
use Rattle.type_names.specs.Views.{AreNames}
use Rattle.type_names.proofs.Places.{position_hit, position_skip}
use Rattle.type_names.proofs.Variants.{means_are}
use Rattle.type_table.specs.declared.entries.Entry.{Entry}
use Rattle.type_table.specs.declared.entries.Entry.TheVariants as entries
use Rattle.type_table.specs.declared.nodes.Head.{Head}
use Rattle.type_table.specs.declared.nodes.Head.TheVariants as heads
use Rattle.type_table.specs.declared.nodes.Node.{Node}
use Rattle.type_table.specs.Entries.{Told, own_type, entry_told, item_told, items_told}
use Rattle.type_table.specs.Keeping.{head_declared, AreDeclared, NamesDeclared, ItemDeclared, KeepsItems}
use Rattle.type_table.specs.Known.{declares_type, is_known_head, IsKnown, has_few, HasFewParts}
use Rattle.type_table.proofs.ByValue.{mapped}
use Rattle.type_table.proofs.PathLemmas.{told_at}

-- where the test passes first there is an element at which it passes
abbrev PassesThere : {A : Type 0} → (A → Bool) → List A → Type 0
PassesThere {A} p xs = (j : ℕ) → position p xs ≡ Some j → (x : A) × (slice_get xs j ≡ Some x) × (p x ≡ true)

position_at : {A : Type 0} (p : A → Bool) (xs : List A) (j : ℕ) → position p xs ≡ Some j → (x : A) × (slice_get xs j ≡ Some x) × (p x ≡ true)
position_at p [] j e = absurd cc
position_at {A} p (y ∷ ys) j e = by (p y) refl (λ m at. position_at p ys m at)
  where
    next : (o : Option ℕ) → position p ys ≡ o → option_map suc o ≡ Some j → PassesThere p ys → (x : A) × (slice_get (y ∷ ys) j ≡ Some x) × (p x ≡ true)
    next None at k later = absurd cc
    next (Some m) at k later =
        let same : suc m ≡ j = cc in
        let found = later m at in
        (found.0, ap (slice_get (y ∷ ys)) (sym same) ∙ found.1, found.2)

    by : (b : Bool) → p y ≡ b → PassesThere p ys → (x : A) × (slice_get (y ∷ ys) j ≡ Some x) × (p x ≡ true)
    by true h later = let same : 0 ≡ j = some_same (sym (position_hit p y ys h) ∙ e) in (y, ap (slice_get (y ∷ ys)) (sym same), h)
      where
        some_same : {m n : ℕ} → Some m ≡ Some n → m ≡ n
        some_same k = cc
    by false h later = next (position p ys) refl (sym (position_skip p y ys h) ∙ e) later

-- a built-in type is no item
is_item : Meaning → Bool
is_item (ItemName i) = true
is_item _ = false

no_item : (es : List (List ℕ × Meaning)) (name : List ℕ) (i : ℕ) → list_all (λ e. not (is_item e.1)) es ≡ true → entry_of es name ≡ Some (ItemName i) → ⊥
unfolding is_item
no_item [] name i all e = cc
no_item (x ∷ xs) name i all e = by (bytes_eq name x.0) e (λ others. no_item xs name i others)
  where
    halves : (not (is_item x.1) ≡ true) × (list_all (λ e. not (is_item e.1)) xs ≡ true)
    halves = and_parts (not (is_item x.1)) (list_all (λ e. not (is_item e.1)) xs) all

    item : (m : Meaning) → not (is_item m) ≡ true → Some m ≡ Some (ItemName i) → ⊥
    item m n h = let same : m ≡ ItemName i = cc in let clash : not (is_item (ItemName i)) ≡ true = ap (λ (k : Meaning). not (is_item k)) (sym same) ∙ n in cc

    by : (b : Bool) → (if b then Some x.1 else entry_of xs name) ≡ Some (ItemName i) →
        (list_all (λ e. not (is_item e.1)) xs ≡ true → entry_of xs name ≡ Some (ItemName i) → ⊥) → ⊥
    by true h later = item x.1 halves.0 h
    by false h later = later halves.1 h

built_in_no_item : (name : List ℕ) (i : ℕ) → built_in name ≡ Some (ItemName i) → ⊥
unfolding built_in is_item
built_in_no_item name i e = no_item built_in_types name i refl e

-- what has a name that is looked up declares a type
named_declares : (name : List ℕ) (i : ℕ) (kind : KindTree) → is_name name (declared_name kind) ≡ true → is_some (own_type i kind) ≡ true
named_declares name i (Import owner listed) h = absurd cc
named_declares name i (Function n parameter deref arms) h = absurd cc
named_declares name i _ h = refl

-- the names of a file mean only what the test says to declare a type, where it says so of each item that does
pub names_declared : (items : List ItemTree) (names : Names) (is : ℕ → Bool) → AreNames items names → ((i : ℕ) (x : ItemTree) → slice_get items i ≡ Some x → ItemDeclared is i x.kind) → NamesDeclared is names
names_declared items names is are each name i e = by (declared_at items name) refl (sym (ap (λ (m : Means). m name) (means_are items names are)) ∙ e)
  where
    by : (o : Option ℕ) → declared_at items name ≡ o → first_of_two (option_map ItemName o) (built_in name) ≡ Some (ItemName i) → is i ≡ true
    by None at h = absurd (built_in_no_item name i h)
    by (Some j) at h =
        let same : j ≡ i = cc in
        let found = position_at (λ x. is_name name (declared_name x.kind)) items j at in
        ap is (sym same) ∙ each j found.0 found.1 (named_declares name j found.0.kind found.2)

-- an entry that declares a type is an enum or a struct
entry_declares : (types : List MType) (e : Entry) → is_some (entry_told types e).own ≡ true → declares_type (Some e) ≡ true
entry_declares types (entries.Function param deref) h = absurd cc
entry_declares types entries.Import h = absurd cc
entry_declares types _ h = refl

-- so each item that declares a type has such an entry
pub entries_declare : (types : List MType) (es : List Entry) (names : Means) (items : List ItemTree) → map (entry_told types) es ≡ items_told names items →
    (i : ℕ) (x : ItemTree) → slice_get items i ≡ Some x → ItemDeclared (λ j. declares_type (slice_get es j)) i x.kind
entries_declare types es names items told i x at own =
    let m = mapped (entry_told types) es i (item_told names i x) (ap (λ (ts : List Told). slice_get ts i) told ∙ told_at names items i x at) in
    ap declares_type m.1 ∙ entry_declares types m.0 (ap (λ (y : Told). is_some y.own) m.2 ∙ own)

head_known : (es : List Entry) (h : Head) (n : ℕ) → head_declared (λ i. declares_type (slice_get es i)) h ≡ true → has_few h n ≡ true → is_known_head es h n ≡ true
head_known es heads.Tuple n d f = f
head_known es (heads.Array len) n d f = d
head_known es (heads.Named (owners.Item i)) n d f = d
head_known es _ n d f = refl

-- nodes that name declared items alone, and have few parts, are known
pub nodes_known : (es : List Entry) (nodes : List Node) → AreDeclared (λ i. declares_type (slice_get es i)) nodes → All HasFewParts nodes → All (IsKnown es) nodes
nodes_known es nodes declared few k d lt =
    let n : Node = slice_index_or nodes k d in
    head_known es n.head (length n.parts.items) (AllPass-from_list_all (λ (m : Node). head_declared (λ i. declares_type (slice_get es i)) m.head) nodes declared k d lt) (few k d lt)

-- the nodes of a file name declared items alone
pub file_declared : (names : Names) (items : List ItemTree) (types : List MType) (es : List Entry) (nodes : List Node) → AreNames items names →
    KeepsItems names items [] nodes → map (entry_told types) es ≡ items_told (means items) items → AreDeclared (λ i. declares_type (slice_get es i)) nodes
file_declared names items types es nodes are keeps told =
    let each = entries_declare types es (means items) items told in
    keeps.declared (λ i. declares_type (slice_get es i)) (names_declared items names (λ i. declares_type (slice_get es i)) are each) each refl
