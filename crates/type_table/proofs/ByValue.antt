-- Ways in the graph of items and nodes are the ways in which a type reaches others by value.
use Rattle.std.proofs.Common.{◌≡◌, ◌⊎◌, inl, inr, ⊎_elim, ℕ, ◌+◌, ◌-◌, ◌<◌, ◌≤◌, Bool, true, false, cond, List, [], ◌∷◌, ◌++◌, map, length, Option, Some, None, refl, sym, ap, subst, ◌∙◌, suc, zero, arith, get_or}
use Rattle.std.specs.Prelude.{slice_get, nat_lt, nat_eq, option_map, IfSome, IsNone, is_some}
use Rattle.std.specs.List.{Contains, list_all}
use Rattle.std.proofs.lemmas.Bool.{ltb-true, cases_lt, lt-ltb, le-ltb, eqb-true}
use Rattle.std.proofs.lemmas.List.{append-nil, length-map, get_or_past, get_or_append_left, get_or-append-add}
use Rattle.std.proofs.lemmas.List.Elements.{Contains-append_left, Contains-append_right, Contains-append_cases}
use Rattle.std.proofs.lemmas.Option.{slice_get-map, slice_get_past, get_or_from_slice_get, slice_get_read}
use Rattle.match_model.specs.declared.Width.{Width}
use Rattle.match_model.specs.Types.{MType, MTypes, no_types, types_list, types_of, DeclaredItem, OptionOwner, ResultOwner, NeverType, TupleType, ArrayType, NamedType}
use Rattle.match_model.specs.Declarations.{MVariant, MItem, MProgram, node_types, item_types, item_variants, filled_variant, variant_types}
use Rattle.cycle_search.specs.Graphs.{IsEdge, Reaches as ReachesBy, by_edge, by_way, IsFirstOnCycle, HasNoCycle}
use Rattle.cycle_search.proofs.Ways.{joined}
use Rattle.type_names.specs.declared.meanings.Base.{Base}
use Rattle.type_names.specs.declared.meanings.Base.TheVariants as bases
use Rattle.type_names.specs.declared.meanings.Owner.TheVariants as owners
use Rattle.type_names.specs.declared.meanings.FormKind.{FormKind}
use Rattle.type_names.specs.declared.meanings.FormKind.TheVariants as form_kinds
use Rattle.type_names.specs.Views.{base_view}
use Rattle.type_table.specs.declared.nodes.Head.{Head}
use Rattle.type_table.specs.declared.nodes.Head.TheVariants as heads
use Rattle.type_table.specs.declared.nodes.Node.{Node}
use Rattle.type_table.specs.declared.entries.FieldEntry.{FieldEntry}
use Rattle.type_table.specs.declared.entries.VariantEntry.{VariantEntry}
use Rattle.type_table.specs.declared.entries.Entry.{Entry}
use Rattle.type_table.specs.declared.entries.Entry.TheVariants as entry_kinds
use Rattle.type_table.specs.Nodes.{AreNodes, types_in, type_at, type_there, head_type, fits_head}
use Rattle.type_table.specs.Entries.{entry_told, variant_entry, entry_below}
use Rattle.type_table.specs.Bodies.{form_atoms}
use Rattle.type_table.specs.Edges.{node_atoms, variant_edges, item_edges, node_edges, edges_of, variants_edges, entry_edges}
use Rattle.type_table.specs.Faults.{HasByValue, as_part, as_item, Reaches, in_one, in_more, ContainsItself, FirstThat}
use Rattle.type_table.specs.Possible.{program_in}
use Rattle.type_table.specs.Readings.{tuple_part, option_part, result_part, part_type}
use Rattle.type_table.specs.Readers.{type_owner}
use Rattle.type_table.specs.Tables.{part_of, field_type, field_number, number_with}
use Rattle.type_table.proofs.NodeLemmas.{type_of_node, get_below, count_types, item_at, map_has}
use Rattle.type_table.proofs.PlainTypes.{variants_in}
use Rattle.type_table.proofs.FieldLemmas.{base_field, base_owner, tuple_field, option_field, result_field, entry_field}

-- a place of the list has it
abbrev At : {A : Type 0} → List A → A → Type 0
At xs x = (k : ℕ) × (slice_get xs k ≡ Some x)

at_of : {A : Type 0} (xs : List A) (x : A) → Contains xs x → At xs x
at_of xs x h = (h.0, slice_get_read xs (length xs) h.0 x refl h.1 (sym h.2))

contains_of : {A : Type 0} (xs : List A) (x : A) → At xs x → Contains xs x
contains_of xs x h = (h.0, get_below xs h.0 x h.1, get_or_from_slice_get xs h.0 x x h.1)

none_at : {A : Type 0} (x : A) → At {A = A} [] x → ⊥
none_at x h = let e : None ≡ Some x = h.1 in absurd cc

none_in : (b : ℕ) → Contains {X = ℕ} [] b → ⊥
none_in b h = none_at b (at_of [] b h)

-- what a list that was mapped has
pub mapped : {A B : Type 0} (f : A → B) (xs : List A) (k : ℕ) (y : B) → slice_get (map f xs) k ≡ Some y → (x : A) × (slice_get xs k ≡ Some x) × (f x ≡ y)
mapped {A} {B} f xs k y h = by (slice_get xs k) refl (sym (slice_get-map f xs k) ∙ h)
  where
    by : (o : Option A) → slice_get xs k ≡ o → option_map f o ≡ Some y → (x : A) × (slice_get xs k ≡ Some x) × (f x ≡ y)
    by None e g = absurd cc
    by (Some x) e g = (x, e, cc)

-- a type has another by value exactly as the item of an array or as a field of one of its variants
abbrev FieldOf : MProgram → MType → MType → Type 0
FieldOf program t u = (k i : ℕ) × (field_type program t k i ≡ Some u)

has_field : (program : MProgram) (t u : MType) → FieldOf program t u → HasByValue program t u
has_field program t u f = by (node_types program t f.0) refl f.2
  where
    by : (o : Option MTypes) → node_types program t f.0 ≡ o → part_of o f.1 ≡ Some u → HasByValue program t u
    by None e h = absurd cc
    by (Some ts) e h = as_part t u f.0 ts e (contains_of (types_list ts) u (f.1, h))

part_has : (o : Option MTypes) (ts : MTypes) (i : ℕ) (u : MType) → o ≡ Some ts → slice_get (types_list ts) i ≡ Some u → part_of o i ≡ Some u
part_has o ts i u e h = ap (λ (p : Option MTypes). part_of p i) e ∙ h

field_or_item : (program : MProgram) (t u : MType) → HasByValue program t u → FieldOf program t u ⊎ ((n : ℕ) × (t ≡ ArrayType u n))
field_or_item program t u (as_part _ _ k ts e c) = let at : At (types_list ts) u = at_of (types_list ts) u c in inl (k, at.0, part_has (node_types program t k) ts at.0 u e at.1)
field_or_item program t u (as_item _ n) = inr (n, refl)

-- the part that may be there is one of the parts
part_there : (parts : List MType) (o : Option ℕ) (u : MType) → part_type parts o ≡ Some u → At parts u
part_there parts None u h = absurd cc
part_there parts (Some n) u h = (n, h)

-- atoms of nodes
atom_node : (count : ℕ) (types : List MType) (ps : List ℕ) (b : ℕ) → At (node_atoms count ps) b → (p : ℕ) × (b ≡ count + p) × At ps p
atom_node count types ps b h = let m = mapped (λ p. count + p) ps h.0 b h.1 in (m.0, sym m.2, (h.0, m.1))

node_atom : (count : ℕ) (ps : List ℕ) (p : ℕ) → At ps p → At (node_atoms count ps) (count + p)
node_atom count ps p h = (h.0, map_has (λ p. count + p) ps h.0 p h.1)

-- the edges of a variant go to the types of its fields
abbrev FieldNode : ℕ → VariantEntry → ℕ → Type 0
FieldNode count v b = (i p : ℕ) × (field_number v i ≡ Some p) × (b ≡ count + p)

module _ (count : ℕ) (v : VariantEntry) where
  listed_number : (b i p : ℕ) → slice_get (map {B = ℕ} (λ f. f.ty) v.fields.items) i ≡ Some p → option_map {U = ℕ} (λ f. f.ty) (slice_get v.fields.items i) ≡ Some p
  listed_number b i p h = sym (slice_get-map (λ f. f.ty) v.fields.items i) ∙ h

  pub body_field : (b : ℕ) → At (variant_edges count v) b → FieldNode count v b
  body_field b h = by v.form refl h
    where
      from_atoms : (k : FormKind) → number_with k ≡ number_with form_kinds.Tuple → v.form ≡ k → At (node_atoms count (map (λ f. f.ty) v.fields.items)) b → FieldNode count v b
      from_atoms k same e at =
          let m = atom_node count [] (map (λ f. f.ty) v.fields.items) b at in (
            m.2.0,
            m.0,
            ap (λ (f : FormKind). number_with f (option_map (λ f. f.ty) (slice_get v.fields.items m.2.0))) e
                ∙ (ap (λ (g : Option ℕ → Option ℕ). g (option_map (λ f. f.ty) (slice_get v.fields.items m.2.0))) same ∙ listed_number b m.2.0 m.0 m.2.1),
            m.1,
          )

      by : (k : FormKind) → v.form ≡ k → At (form_atoms k (node_atoms count (map (λ f. f.ty) v.fields.items))) b → FieldNode count v b
      by form_kinds.Unit e at = absurd cc
      by form_kinds.Tuple e at = from_atoms form_kinds.Tuple refl e at
      by form_kinds.Brace e at = from_atoms form_kinds.Brace refl e at

  pub field_body : (i p : ℕ) → field_number v i ≡ Some p → At (variant_edges count v) (count + p)
  field_body i p h = by v.form h
    where
      number : (o : Option FieldEntry) → slice_get v.fields.items i ≡ o → option_map {U = ℕ} (λ f. f.ty) o ≡ Some p → At (map {B = ℕ} (λ f. f.ty) v.fields.items) p
      number None e g = absurd cc
      number (Some f) e g = let same : f.ty ≡ p = cc in (i, map_has (λ f. f.ty) v.fields.items i f e ∙ ap Some same)

      by : (k : FormKind) → number_with k (option_map (λ f. f.ty) (slice_get v.fields.items i)) ≡ Some p → At (form_atoms k (node_atoms count (map (λ f. f.ty) v.fields.items))) (count + p)
      by form_kinds.Unit g = absurd cc
      by _ g = node_atom count (map (λ f. f.ty) v.fields.items) p (number (slice_get v.fields.items i) refl g)

-- the variants of an entry
abbrev entry_variants : Entry → List VariantEntry
entry_variants (entry_kinds.Struct id variant) = variant ∷ []
entry_variants (entry_kinds.Enum id name later variants) = variants.items
entry_variants _ = []

variants_told : (types : List MType) (e : Entry) → item_variants (Some (entry_told types e).item) ≡ map (variant_entry types) (entry_variants e)
variants_told types (entry_kinds.Struct id variant) = refl
variants_told types _ = refl

entry_edges_are : (count : ℕ) (e : Entry) → entry_edges count e ≡ variants_edges count (entry_variants e)
entry_edges_are count (entry_kinds.Struct id variant) = sym (append-nil (variant_edges count variant))
entry_edges_are count _ = refl

variants_edge : (count : ℕ) (vs : List VariantEntry) (b : ℕ) → Contains (variants_edges count vs) b → (k : ℕ) × (v : VariantEntry) × (slice_get vs k ≡ Some v) × FieldNode count v b
variants_edge count [] b h = absurd (none_in b h)
variants_edge count (v ∷ vs) b h = ⊎_elim
    (λ here. (0, v, refl, body_field count v b (at_of (variant_edges count v) b here)))
    (λ later. let w = variants_edge count vs b later in (suc w.0, w.1, w.2, w.3))
    (Contains-append_cases (variant_edges count v) (variants_edges count vs) b h)

edge_variants : (count : ℕ) (vs : List VariantEntry) (k : ℕ) (v : VariantEntry) (i p : ℕ) → slice_get vs k ≡ Some v → field_number v i ≡ Some p → Contains (variants_edges count vs) (count + p)
edge_variants count [] k v i p at h = absurd cc
edge_variants count (w ∷ vs) zero v i p at h =
    let same : w ≡ v = cc in
    Contains-append_left (variant_edges count w) (variants_edges count vs) (count + p)
    (contains_of (variant_edges count w) (count + p) (field_body count w i p (ap (λ (x : VariantEntry). field_number x i) same ∙ h)))
edge_variants count (w ∷ vs) (suc k) v i p at h = Contains-append_right (variant_edges count w) (variants_edges count vs) (count + p) (edge_variants count vs k v i p at h)

-- the field types of an item are those of its entry
entry_types : (types : List MType) (e : Entry) (k : ℕ) → item_types (Some (entry_told types e).item) k ≡ variant_types (option_map (variant_entry types) (slice_get (entry_variants e) k))
entry_types types e k = ap (λ (vs : List MVariant). variant_types (slice_get vs k)) (variants_told types e) ∙ ap variant_types (slice_get-map (variant_entry types) (entry_variants e) k)

-- an edge of an item is a field of it
edge_field : (count : ℕ) (types : List MType) (e : Entry) (b : ℕ) → Contains (entry_edges count e) b →
    (p : ℕ) × (b ≡ count + p) × (k i : ℕ) × (part_of (item_types (Some (entry_told types e).item) k) i ≡ Some (type_at types p))
edge_field count types e b h =
    let w = variants_edge count (entry_variants e) b (subst (λ (xs : List ℕ). Contains xs b) (entry_edges_are count e) h) in (
      w.3.1,
      w.3.3,
      w.0,
      w.3.0,
      ap (λ (o : Option MTypes). part_of o w.3.0) (entry_types types e w.0 ∙ ap (λ (o : Option VariantEntry). variant_types (option_map (variant_entry types) o)) w.2)
          ∙ (sym (entry_field types w.1 w.3.0) ∙ ap (option_map (type_at types)) w.3.2),
    )

-- a field of an item is an edge of it
field_edge : (count : ℕ) (types : List MType) (e : Entry) (k i : ℕ) (u : MType) → part_of (item_types (Some (entry_told types e).item) k) i ≡ Some u →
    (p : ℕ) × (type_at types p ≡ u) × Contains (entry_edges count e) (count + p)
field_edge count types e k i u h = by (slice_get (entry_variants e) k) refl (ap (λ (o : Option MTypes). part_of o i) (sym (entry_types types e k)) ∙ h)
  where
    numbered : (v : VariantEntry) → slice_get (entry_variants e) k ≡ Some v → (o : Option ℕ) → field_number v i ≡ o → option_map (type_at types) o ≡ Some u →
        (p : ℕ) × (type_at types p ≡ u) × Contains (entry_edges count e) (count + p)
    numbered v at None f g = absurd cc
    numbered v at (Some p) f g =
        let type : type_at types p ≡ u = cc in
        (p, type, subst (λ (xs : List ℕ). Contains xs (count + p)) (sym (entry_edges_are count e)) (edge_variants count (entry_variants e) k v i p at f))

    by : (o : Option VariantEntry) → slice_get (entry_variants e) k ≡ o → part_of (variant_types (option_map (variant_entry types) o)) i ≡ Some u →
        (p : ℕ) × (type_at types p ≡ u) × Contains (entry_edges count e) (count + p)
    by None at g = absurd cc
    by (Some v) at g = numbered v at (field_number v i) refl (entry_field types v i ∙ g)

abbrev array_item : MType → Option MType
array_item (ArrayType t n) = Some t
array_item _ = None

base_array : (b : Base) → None ≡ array_item (base_view b)
base_array bases.Bool = refl
base_array _ = refl

-- the only part
one_part : (parts : List ℕ) → length parts ≡ 1 → (p : ℕ) × (parts ≡ p ∷ [])
one_part (p ∷ []) e = (p, refl)
one_part _ e = absurd (omega (arith, e))

only_at : {A : Type 0} (x y : A) → At (x ∷ []) y → x ≡ y
only_at x y (zero, h) = cc
only_at x y (suc k, h) = absurd cc

module _ (program : MProgram) (count : ℕ) (types : List MType) where
  abbrev parts_types : List ℕ → List MType
  parts_types parts = map (type_at types) parts

  count_types_of : (parts : List ℕ) (n : ℕ) → nat_eq (length parts) n ≡ true → length (parts_types parts) ≡ n
  count_types_of parts n fits = length-map _ _ ∙ eqb-true (length parts) n fits

  -- where a node has another node by value
  abbrev NodeHas : Head → List ℕ → ℕ → Type 0
  NodeHas h parts b = (p : ℕ) × (b ≡ count + p) × HasByValue program (head_type h (parts_types parts)) (type_at types p)

  -- where a node of a declared type goes to its item
  abbrev NodeNames : Head → ℕ → Type 0
  NodeNames h b = (h ≡ heads.Named (owners.Item b)) × (b < count)

  item_edge : (i b : ℕ) → Contains (item_edges count i) b → (i ≡ b) × (b < count)
  item_edge i b h = by (nat_lt i count) refl h
    where
      by : (t : Bool) → nat_lt i count ≡ t → Contains (cond t (i ∷ []) []) b → (i ≡ b) × (b < count)
      by true e c = let same : i ≡ b = only_at i b (at_of (i ∷ []) b c) in (same, subst (λ (j : ℕ). j < count) same (ltb-true i count e))
      by false e c = absurd (none_in b c)

  edge_item : (i : ℕ) → i < count → Contains (item_edges count i) i
  edge_item i lt = by (nat_lt i count) (lt-ltb i count lt)
    where
      by : (t : Bool) → t ≡ true → Contains (cond t (i ∷ []) []) i
      by true e = contains_of (i ∷ []) i (0, refl)
      by false e = absurd cc

  node_edge : (h : Head) (parts : List ℕ) → fits_head h (length parts) ≡ true → (b : ℕ) → Contains (node_edges count h parts) b → NodeHas h parts b ⊎ NodeNames h b
  node_edge heads.Tuple parts fits b c =
      let m = atom_node count types parts b (at_of (node_atoms count parts) b c) in
      inl (
        m.0,
        m.1,
        has_field program (TupleType (types_of (parts_types parts))) (type_at types m.0)
            (0, m.2.0, sym (tuple_field program (parts_types parts) 0 m.2.0) ∙ map_has (type_at types) parts m.2.0 m.0 m.2.1),
      )
  node_edge (heads.Array n) parts fits b c =
      let m = atom_node count types parts b (at_of (node_atoms count parts) b c) in
      let one = one_part parts (eqb-true (length parts) 1 fits) in
      let same : one.0 ≡ m.0 = only_at one.0 m.0 (subst (λ (ps : List ℕ). At ps m.0) one.1 m.2) in
      inl (
        m.0,
        m.1,
        subst (λ (ps : List ℕ). HasByValue program (head_type (heads.Array n) (parts_types ps)) (type_at types m.0)) (sym one.1)
            (subst (λ (p : ℕ). HasByValue program (ArrayType (type_at types p) n) (type_at types m.0)) (sym same) (as_item (type_at types m.0) n)),
      )
  node_edge (heads.Named (owners.Item i)) parts fits b c = let e = item_edge i b c in inr (ap (λ (j : ℕ). heads.Named (owners.Item j)) e.0, e.1)
  node_edge (heads.Named owners.Option) parts fits b c =
      let m = atom_node count types parts b (at_of (node_atoms count parts) b c) in
      let long : length parts ≡ 1 = eqb-true (length parts) 1 fits in
      let within : m.2.0 < length parts = get_below parts m.2.0 m.0 m.2.1 in
      let first : m.2.0 ≡ 0 = omega arith in
      inl (
        m.0,
        m.1,
        has_field program (NamedType OptionOwner (types_of (parts_types parts))) (type_at types m.0) (
          1,
          0,
          sym (option_field program (parts_types parts) 1 0 (count_types_of parts 1 fits))
              ∙ map_has (type_at types) parts 0 m.0 (ap (λ (j : ℕ). slice_get parts j) (sym first) ∙ m.2.1),
        ),
      )
  node_edge (heads.Named owners.Result) parts fits b c =
      let m = atom_node count types parts b (at_of (node_atoms count parts) b c) in
      let long : length parts ≡ 2 = eqb-true (length parts) 2 fits in
      let within : m.2.0 < length parts = get_below parts m.2.0 m.0 m.2.1 in
      let two : nat_lt m.2.0 2 ≡ true = lt-ltb m.2.0 2 (omega arith) in
      inl (
        m.0,
        m.1,
        has_field program (NamedType ResultOwner (types_of (parts_types parts))) (type_at types m.0) (
          m.2.0,
          0,
          sym (result_field program (parts_types parts) m.2.0 0 (count_types_of parts 2 fits))
              ∙ (ap (part_type (parts_types parts)) (argument m.2.0 two) ∙ map_has (type_at types) parts m.2.0 m.0 m.2.1),
        ),
      )
    where
      argument : (k : ℕ) → nat_lt k 2 ≡ true → result_part k 0 ≡ Some k
      argument k e = rw e refl
  node_edge _ parts fits b c = absurd (none_in b c)

  -- an edge to the node of a type
  abbrev EdgeTo : Head → List ℕ → MType → Type 0
  EdgeTo h parts u = (p : ℕ) × (type_at types p ≡ u) × Contains (node_edges count h parts) (count + p)

  to_part : (h : Head) (parts : List ℕ) (u : MType) → node_edges count h parts ≡ node_atoms count parts → At (parts_types parts) u → EdgeTo h parts u
  to_part h parts u e at =
      let m = mapped (type_at types) parts at.0 u at.1 in
      (m.0, m.2, subst (λ (xs : List ℕ). Contains xs (count + m.0)) (sym e) (contains_of (node_atoms count parts) (count + m.0) (node_atom count parts m.0 (at.0, m.1))))

  field_edge_of : (h : Head) (parts : List ℕ) → fits_head h (length parts) ≡ true → (k i : ℕ) (u : MType) → field_type program (head_type h (parts_types parts)) k i ≡ Some u →
      EdgeTo h parts u ⊎ ((j : ℕ) × (h ≡ heads.Named (owners.Item j)))
  field_edge_of (heads.Base b) parts fits k i u f = let e : None ≡ Some u = base_field program b k i ∙ f in absurd cc
  field_edge_of heads.Tuple parts fits k i u f =
      inl (to_part heads.Tuple parts u refl (part_there (parts_types parts) (tuple_part k i) u (tuple_field program (parts_types parts) k i ∙ f)))
  field_edge_of (heads.Named (owners.Item j)) parts fits k i u f = inr (j, refl)
  field_edge_of (heads.Named owners.Option) parts fits k i u f =
      inl (to_part (heads.Named owners.Option) parts u refl
      (part_there (parts_types parts) (option_part k i) u (option_field program (parts_types parts) k i (count_types_of parts 1 fits) ∙ f)))
  field_edge_of (heads.Named owners.Result) parts fits k i u f =
      inl (to_part (heads.Named owners.Result) parts u refl
      (part_there (parts_types parts) (result_part k i) u (result_field program (parts_types parts) k i (count_types_of parts 2 fits) ∙ f)))
  field_edge_of _ parts fits k i u f = absurd cc

  item_edge_of : (h : Head) (parts : List ℕ) → fits_head h (length parts) ≡ true → (u : MType) → array_item (head_type h (parts_types parts)) ≡ Some u → EdgeTo h parts u
  item_edge_of (heads.Base b) parts fits u e = let f : None ≡ Some u = base_array b ∙ e in absurd cc
  item_edge_of (heads.Array n) parts fits u e =
      let one = one_part parts (eqb-true (length parts) 1 fits) in
      let first : array_item (head_type (heads.Array n) (parts_types parts)) ≡ Some (type_at types one.0) = ap (λ (ps : List ℕ). array_item (head_type (heads.Array n) (parts_types ps))) one.1 in
      let same : Some (type_at types one.0) ≡ Some u = sym first ∙ e in
      to_part (heads.Array n) parts u refl (0, map_has (type_at types) parts 0 one.0 (ap (λ (ps : List ℕ). slice_get ps 0) one.1) ∙ same)
  item_edge_of _ parts fits u e = absurd cc

  value_edge : (h : Head) (parts : List ℕ) → fits_head h (length parts) ≡ true → (u : MType) → HasByValue program (head_type h (parts_types parts)) u →
      EdgeTo h parts u ⊎ ((j : ℕ) × (h ≡ heads.Named (owners.Item j)))
  value_edge h parts fits u v =
      ⊎_elim
      (λ f. field_edge_of h parts fits f.0 f.1 u f.2)
      (λ a. inl (item_edge_of h parts fits u (ap array_item a.1)))
      (field_or_item program (head_type h (parts_types parts)) u v)

-- the head of a declared type's node
declared_head : (h : Head) (ps : List MType) (i : ℕ) → type_owner (head_type h ps) ≡ Some (DeclaredItem i) → h ≡ heads.Named (owners.Item i)
declared_head (heads.Base b) ps i e = let f : None ≡ Some (DeclaredItem i) = base_owner b ∙ e in absurd cc
declared_head (heads.Named (owners.Item j)) ps i e = let same : j ≡ i = cc in ap (λ (k : ℕ). heads.Named (owners.Item k)) same
declared_head _ ps i e = absurd cc

no_parts : (parts : List ℕ) → nat_eq (length parts) 0 ≡ true → parts ≡ []
no_parts [] e = refl
no_parts (p ∷ ps) e = let f : length (p ∷ ps) ≡ 0 = eqb-true (length (p ∷ ps)) 0 e in absurd (omega arith)

-- an item that has fields is there
field_item : (program : MProgram) (i k j : ℕ) (u : MType) → field_type program (NamedType (DeclaredItem i) no_types) k j ≡ Some u → i < length program.items
field_item program i k j u f = by (slice_get program.items i) refl f
  where
    by : (o : Option MItem) → slice_get program.items i ≡ o → part_of (variant_types (slice_get (map (filled_variant no_types) (item_variants o)) k)) j ≡ Some u → i < length program.items
    by None e g = absurd cc
    by (Some x) e g = get_below program.items i x e

first_step : (program : MProgram) (t u : MType) → Reaches program t u → (v : MType) × HasByValue program t v
first_step program t u (in_one _ _ h) = (u, h)
first_step program t u (in_more _ v _ h r) = (v, h)

-- an item that contains itself is there
pub contains_within : (program : MProgram) (i : ℕ) → ContainsItself program i → i < length program.items
contains_within program i r =
    let first = first_step program (NamedType (DeclaredItem i) no_types) (NamedType (DeclaredItem i) no_types) r in
    ⊎_elim (λ f. field_item program i f.0 f.1 first.0 f.2) (λ a. absurd (not_array first.0 a.0 a.1))
    (field_or_item program (NamedType (DeclaredItem i) no_types) first.0 first.1)
  where
    not_array : (u : MType) (n : ℕ) → NamedType (DeclaredItem i) no_types ≡ ArrayType u n → ⊥
    not_array u n e = absurd cc

module _ (width : Width) (nodes : List Node) (entries : List Entry) (are : AreNodes nodes) (below : list_all (entry_below (length nodes)) entries ≡ true) where
  abbrev count : ℕ
  count = length entries

  abbrev types : List MType
  types = types_in nodes

  abbrev program : MProgram
  program = program_in width nodes entries

  abbrev graph : List (List ℕ)
  graph = map (entry_edges (length entries)) entries ++ map (edges_of (length entries)) nodes

  abbrev own : ℕ → MType
  own i = NamedType (DeclaredItem i) no_types

  -- the type of a number of the graph
  abbrev number_type : ℕ → MType
  number_type a = cond (nat_lt a (length entries)) (own a) (type_at types (a - length entries))

  of_item : (a : ℕ) → a < length entries → number_type a ≡ own a
  of_item a lt = ap (λ (b : Bool). cond b (own a) (type_at types (a - length entries))) (lt-ltb a (length entries) lt)

  of_node : (n : ℕ) → number_type (length entries + n) ≡ type_at types n
  of_node n =
      let back : (length entries + n) - length entries ≡ n = omega arith in
      ap (λ (b : Bool). cond b (own (length entries + n)) (type_at types ((length entries + n) - length entries))) (le-ltb (length entries + n) (length entries) (omega arith))
      ∙ ap (type_at types) back

  out_item : (a : ℕ) (e : Entry) → slice_get entries a ≡ Some e → get_or graph a [] ≡ entry_edges (length entries) e
  out_item a e at =
      let lt : a < length entries = get_below entries a e at in
      let same : length (map (entry_edges (length entries)) entries) ≡ length entries = length-map _ _ in
      get_or_append_left (map (entry_edges (length entries)) entries) (map (edges_of (length entries)) nodes) [] a (omega arith)
      ∙ get_or_from_slice_get (map (entry_edges (length entries)) entries) a (entry_edges (length entries) e) [] (map_has (entry_edges (length entries)) entries a e at)

  behind_items : (n : ℕ) → get_or graph (length entries + n) [] ≡ get_or (map (edges_of (length entries)) nodes) n []
  behind_items n =
      let same : length (map (entry_edges (length entries)) entries) ≡ length entries = length-map _ _ in
      ap (λ (m : ℕ). get_or graph (m + n) []) (sym same)
      ∙ get_or-append-add (map (entry_edges (length entries)) entries) (map (edges_of (length entries)) nodes) n []

  out_node : (n : ℕ) (k : Node) → slice_get nodes n ≡ Some k → get_or graph (length entries + n) [] ≡ edges_of (length entries) k
  out_node n k at = behind_items n
      ∙ get_or_from_slice_get (map (edges_of (length entries)) nodes) n (edges_of (length entries) k) [] (map_has (edges_of (length entries)) nodes n k at)

  node_is_type : (n : ℕ) (k : Node) → slice_get nodes n ≡ Some k → type_at types n ≡ head_type k.head (map (type_at types) k.parts.items)
  node_is_type n k at = ap type_there (type_of_node nodes n k are at)

  item_there : (i : ℕ) (e : Entry) → slice_get entries i ≡ Some e → slice_get program.items i ≡ Some (entry_told types e).item
  item_there i e at = map_has (λ e. (entry_told types e).item) entries i e at

  -- the type of a field is that of the entry's
  field_is : (i : ℕ) (e : Entry) (k j : ℕ) → slice_get entries i ≡ Some e → field_type program (own i) k j ≡ part_of (item_types (Some (entry_told types e).item) k) j
  field_is i e k j at =
      ap (λ (vs : List MVariant). part_of (variant_types (slice_get vs k)) j) (variants_in width nodes entries are below i no_types)
      ∙ ap (λ (o : Option MItem). part_of (item_types o k) j) (item_there i e at)

  -- a step by value, or from a declared type's node to its item
  abbrev Step : ℕ → ℕ → Type 0
  Step a b = (HasByValue program (number_type a) (number_type b) × (length entries ≤ b)) ⊎ ((number_type a ≡ number_type b) × (length entries ≤ a) × (b < length entries))

  by_value : (a p b : ℕ) (t : MType) → number_type a ≡ t → b ≡ length entries + p → HasByValue program t (type_at types p) → Step a b
  by_value a p b t is e h =
      let to : number_type b ≡ type_at types p = ap (λ (c : ℕ). number_type c) e ∙ of_node p in
      inl (subst (λ (u : MType). HasByValue program (number_type a) u) (sym to) (subst (λ (s : MType). HasByValue program s (type_at types p)) (sym is) h), omega arith)

  item_step : (a b : ℕ) → a < length entries → IsEdge graph a b → Step a b
  item_step a b lt edge =
      let e = item_at entries a lt in
      let f = edge_field (length entries) types e.0 b (subst (λ (xs : List ℕ). Contains xs b) (out_item a e.0 e.1) edge) in
      by_value a f.0 b (own a) (of_item a lt) f.1
      (has_field program (own a) (type_at types f.0) (f.2, f.3, field_is a e.0 f.2 f.3 e.1 ∙ f.4))

  node_step : (n b : ℕ) → IsEdge graph (length entries + n) b → Step (length entries + n) b
  node_step n b edge = ⊎_elim here past (cases_lt n (length nodes))
    where
      past : length nodes ≤ n → Step (length entries + n) b
      past le =
          let same : length (map (edges_of (length entries)) nodes) ≡ length nodes = length-map _ _ in
          absurd (none_in b (subst (λ (xs : List ℕ). Contains xs b) (behind_items n ∙ get_or_past (map (edges_of (length entries)) nodes) n [] (omega arith)) edge))

      here : n < length nodes → Step (length entries + n) b
      here lt =
          let k = item_at nodes n lt in
          let type : number_type (length entries + n) ≡ head_type k.0.head (map (type_at types) k.0.parts.items) = of_node n ∙ node_is_type n k.0 k.1 in
          let fits = (are n k.0 k.1).1 in
          ⊎_elim
          (λ v. by_value (length entries + n) v.0 b (head_type k.0.head (map (type_at types) k.0.parts.items)) type v.1 v.2)
          (λ i.
          let none : k.0.parts.items ≡ [] = no_parts k.0.parts.items (sym (ap (λ (h : Head). fits_head h (length k.0.parts.items)) i.0) ∙ fits) in
          let owned : head_type k.0.head (map (type_at types) k.0.parts.items) ≡ own b =
          ap (λ (h : Head). head_type h (map (type_at types) k.0.parts.items)) i.0 ∙ ap (λ (ps : List ℕ). head_type (heads.Named (owners.Item b)) (map (type_at types) ps)) none in
          inr (type ∙ (owned ∙ sym (of_item b i.1)), omega arith, i.1))
          (node_edge program (length entries) types k.0.head k.0.parts.items fits b (subst (λ (xs : List ℕ). Contains xs b) (out_node n k.0 k.1) edge))

  step : (a b : ℕ) → IsEdge graph a b → Step a b
  step a b edge = ⊎_elim
      (λ lt. item_step a b lt edge)
      (λ le.
      let moved : a ≡ length entries + (a - length entries) = omega arith in
      subst (λ (c : ℕ). Step c b) (sym moved) (node_step (a - length entries) b (subst (λ (c : ℕ). IsEdge graph c b) moved edge)))
      (cases_lt a (length entries))

  -- a way is one by value, but for a single edge to an item
  abbrev Way : ℕ → ℕ → Type 0
  Way a b = Reaches program (number_type a) (number_type b) ⊎ ((number_type a ≡ number_type b) × (length entries ≤ a) × (b < length entries))

  way : (a b : ℕ) → ReachesBy graph a b → Way a b
  way a b (by_edge e) = ⊎_elim (λ v. inl (in_one (number_type a) (number_type b) v.0)) (λ s. inr s) (step a b e)
  way a b (by_way {over = c} e r) = join (step a c e) (way c b r)
    where
      join : Step a c → Way c b → Way a b
      join (inl v) (inl w) = inl (in_more (number_type a) (number_type c) (number_type b) v.0 w)
      join (inl v) (inr s) = inl (in_one (number_type a) (number_type b) (subst (λ (u : MType). HasByValue program (number_type a) u) s.0 v.0))
      join (inr s) (inl w) = inl (subst (λ (u : MType). Reaches program u (number_type b)) (sym s.0) w)
      join (inr s) (inr r) = let low : c < length entries = s.2 in let high : length entries ≤ c = r.1 in absurd (omega arith)

  pub cycle_contains : (i : ℕ) → i < length entries → ReachesBy graph i i → ContainsItself program i
  cycle_contains i lt r = ⊎_elim
      (λ w. subst (λ (t : MType). Reaches program t t) (of_item i lt) w)
      (λ s. let high : length entries ≤ i = s.1 in absurd (omega arith))
      (way i i r)

  -- a way to the node of a type
  abbrev WayTo : ℕ → MType → Type 0
  WayTo a u = (n : ℕ) × (type_at types n ≡ u) × ReachesBy graph a (length entries + n)

  declared_below : (i k j : ℕ) (u : MType) → field_type program (own i) k j ≡ Some u → (e : Entry) × (slice_get entries i ≡ Some e)
  declared_below i k j u f =
      let same : length (map {B = MItem} (λ e. (entry_told types e).item) entries) ≡ length entries = length-map _ _ in
      let lt : i < length (map {B = MItem} (λ e. (entry_told types e).item) entries) = field_item program i k j u f in
      item_at entries i (omega arith)

  item_way : (i : ℕ) (u : MType) → HasByValue program (own i) u → WayTo i u × (i < length entries)
  item_way i u h = ⊎_elim fields (λ a. absurd (not_array a.0 a.1)) (field_or_item program (own i) u h)
    where
      not_array : (n : ℕ) → own i ≡ ArrayType u n → ⊥
      not_array n e = absurd cc

      fields : FieldOf program (own i) u → WayTo i u × (i < length entries)
      fields f =
          let e = declared_below i f.0 f.1 u f.2 in
          let edge = field_edge (length entries) types e.0 f.0 f.1 u (sym (field_is i e.0 f.0 f.1 e.1) ∙ f.2) in
          ((edge.0, edge.1, by_edge (subst (λ (xs : List ℕ). Contains xs (length entries + edge.0)) (sym (out_item i e.0 e.1)) edge.2)), get_below entries i e.0 e.1)

  -- a declared type's node goes to its item
  to_item : (n : ℕ) (k : Node) (i : ℕ) → slice_get nodes n ≡ Some k → k.head ≡ heads.Named (owners.Item i) → i < length entries → IsEdge graph (length entries + n) i
  to_item n k i at e lt =
      subst (λ (xs : List ℕ). Contains xs i) (sym (out_node n k at ∙ ap (λ (h : Head). node_edges (length entries) h k.parts.items) e)) (edge_item program (length entries) types i lt)

  node_way : (n : ℕ) (u : MType) → HasByValue program (type_at types n) u → WayTo (length entries + n) u
  node_way n u h = ⊎_elim here past (cases_lt n (length nodes))
    where
      past : length nodes ≤ n → WayTo (length entries + n) u
      past le =
          let many : length types ≡ length nodes = count_types nodes [] ∙ omega arith in
          let never : type_at types n ≡ NeverType = ap type_there (slice_get_past types n (omega arith)) in
          ⊎_elim (λ f. absurd (no_field f.0 f.1 f.2)) (λ a. absurd (no_item a.0 a.1)) (field_or_item program NeverType u (subst (λ (t : MType). HasByValue program t u) never h))
        where
          no_field : (k j : ℕ) → field_type program NeverType k j ≡ Some u → ⊥
          no_field k j e = absurd cc

          no_item : (m : ℕ) → NeverType ≡ ArrayType u m → ⊥
          no_item m e = absurd cc

      here : n < length nodes → WayTo (length entries + n) u
      here lt =
          let k = item_at nodes n lt in
          let type : type_at types n ≡ head_type k.0.head (map (type_at types) k.0.parts.items) = node_is_type n k.0 k.1 in
          let fits = (are n k.0 k.1).1 in
          ⊎_elim
          (λ e. (e.0, e.1, by_edge (subst (λ (xs : List ℕ). Contains xs (length entries + e.0)) (sym (out_node n k.0 k.1)) e.2)))
          (λ j.
          let none : k.0.parts.items ≡ [] = no_parts k.0.parts.items (sym (ap (λ (h : Head). fits_head h (length k.0.parts.items)) j.1) ∙ fits) in
          let owned : head_type k.0.head (map (type_at types) k.0.parts.items) ≡ own j.0 =
          ap (λ (h : Head). head_type h (map (type_at types) k.0.parts.items)) j.1 ∙ ap (λ (ps : List ℕ). head_type (heads.Named (owners.Item j.0)) (map (type_at types) ps)) none in
          let w = item_way j.0 u (subst (λ (t : MType). HasByValue program t u) (type ∙ owned) h) in
          (w.0.0, w.0.1, by_way (to_item n k.0 j.0 k.1 j.1 w.1) w.0.2))
          (value_edge program (length entries) types k.0.head k.0.parts.items fits u (subst (λ (t : MType). HasByValue program t u) type h))

  -- a step by value is a way
  step_way : (a : ℕ) (t u : MType) → number_type a ≡ t → HasByValue program t u → WayTo a u
  step_way a t u is h = ⊎_elim
      (λ lt. (item_way a u (subst (λ (s : MType). HasByValue program s u) (sym is ∙ of_item a lt) h)).0)
      (λ le.
      let moved : a ≡ length entries + (a - length entries) = omega arith in
      subst (λ (c : ℕ). WayTo c u) (sym moved)
      (node_way (a - length entries) u (subst (λ (s : MType). HasByValue program s u) (sym is ∙ (ap (λ (c : ℕ). number_type c) moved ∙ of_node (a - length entries))) h)))
      (cases_lt a (length entries))

  way_to : (a : ℕ) (t u : MType) → number_type a ≡ t → Reaches program t u → WayTo a u
  way_to a t u is (in_one _ _ h) = step_way a t u is h
  way_to a t u is (in_more _ v _ h r) =
      let w = step_way a t v is h in
      let on = way_to (length entries + w.0) v u (of_node w.0 ∙ w.1) r in
      (on.0, on.1, joined graph a (length entries + w.0) (length entries + on.0) w.2 on.2)

  -- the node of a declared type goes to its item
  own_node : (n i : ℕ) → i < length entries → type_at types n ≡ own i → IsEdge graph (length entries + n) i
  own_node n i lt is = ⊎_elim here past (cases_lt n (length nodes))
    where
      past : length nodes ≤ n → IsEdge graph (length entries + n) i
      past le =
          let many : length types ≡ length nodes = count_types nodes [] ∙ omega arith in
          let never : NeverType ≡ own i = sym (ap type_there (slice_get_past types n (omega arith))) ∙ is in
          absurd cc

      here : n < length nodes → IsEdge graph (length entries + n) i
      here below =
          let k = item_at nodes n below in
          let owner : type_owner (head_type k.0.head (map (type_at types) k.0.parts.items)) ≡ Some (DeclaredItem i) = ap type_owner (sym (node_is_type n k.0 k.1) ∙ is) in
          to_item n k.0 i k.1 (declared_head k.0.head (map (type_at types) k.0.parts.items) i owner) lt

  pub contains_cycle : (i : ℕ) → ContainsItself program i → (i < length entries) × ReachesBy graph i i
  contains_cycle i r =
      let first = first_step program (own i) (own i) r in
      let lt : i < length entries = (item_way i first.0 first.1).1 in
      let w = way_to i (own i) (own i) (of_item i lt) r in
      (lt, joined graph i (length entries + w.0) i w.2 (by_edge (own_node w.0 i lt w.1)))

  -- the first node on a cycle, where it is an item, is the first item that contains itself
  pub first_item : (a : ℕ) → a < length entries → IsFirstOnCycle graph a → FirstThat (ContainsItself program) (Some a)
  first_item a lt first = (cycle_contains a lt first.reaches, λ j less c. first.first j less (contains_cycle j c).1)

  -- where the first node on a cycle is no item, no item contains itself
  pub no_first_item : (a : ℕ) → length entries ≤ a → IsFirstOnCycle graph a → FirstThat (ContainsItself program) None
  no_first_item a le first j c = let w = contains_cycle j c in let lt : j < length entries = w.0 in first.first j (omega arith) w.1

  pub no_cycle_item : HasNoCycle graph → FirstThat (ContainsItself program) None
  no_cycle_item none j c = none j (contains_cycle j c).1

  -- the answer of the search, read on this graph
  pub found_first : (answer : Option ℕ) (a : ℕ) (g : List (List ℕ)) → answer ≡ Some a → g ≡ graph → IfSome answer (IsFirstOnCycle g) → IsFirstOnCycle graph a
  found_first answer a g is same found =
      subst (λ (h : List (List ℕ)). IsFirstOnCycle h a) same (subst (λ (o : Option ℕ). IfSome o (IsFirstOnCycle g)) is found)

  pub found_none : (answer : Option ℕ) (g : List (List ℕ)) → answer ≡ None → g ≡ graph → (IsNone answer → HasNoCycle g) → HasNoCycle graph
  found_none answer g is same none = subst HasNoCycle same (none (ap is_some is))
